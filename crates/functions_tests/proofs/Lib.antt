pub mod VersionRows
