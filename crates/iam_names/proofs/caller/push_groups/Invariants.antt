use Rattle.std.proofs.Common.{◌≡◌, ◌++◌, drop, codes, string_bytes}
use denote.Shadow.{shadow}
use denote.Text.{Utf8}
use Rattle.iam_names.specs.Caller.{groups_behind}
use Rattle.iam_names.proofs.caller.push_groups.Given as goal

abbrev pub invariant-loop-group : goal.invariant-loop-group
invariant-loop-group l = record {
  written : string_bytes l.text ++ groups_behind l.separator (drop l.group-index l.groups) ≡ string_bytes l.initial.text ++ groups_behind (codes "#") l.groups;
  separator_is_text : shadow (Utf8 l.separator);
}
