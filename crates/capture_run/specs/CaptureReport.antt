-- Believed: names of capture_report, for the higher crates.
unfoldable pub use Rattle.capture_report.specs.Report.{chain_lines, copies_due, copies_lines, copies_text, drop_lines, drop_text, function_text, report_bytes, summary}
pub use Rattle.capture_report.specs.Report.{is_gone, report_of}
