-- For proofs: the numbers of a declaration's lines, as they are kept.
use Rattle.policy_text.specs.declared.policy.FunctionDecl.{FunctionDecl}
use Rattle.packet_function.specs.declared.deciding.DecidingLine.TheVariants.{Set}
use Rattle.packet_function.specs.declared.deciding.SettingKey.TheVariants.{Default, Inside, Public, Ports, Rate}
use Rattle.declared_lines.specs.declared.lines.DeclaredLines.{DeclaredLines}
use Rattle.declared_lines.specs.DeclaredLines.{rule_lines, number_of, deciders}

abbrev pub lines_of : FunctionDecl → DeclaredLines
lines_of decl = record {
  declaration = decl.line;
  rules = rule_lines decl;
  default = number_of decl (Set Default);
  inside = number_of decl (Set Inside);
  public = number_of decl (Set Public);
  ports = number_of decl (Set Ports);
  rate = number_of decl (Set Rate);
  deciding = deciders decl;
}
