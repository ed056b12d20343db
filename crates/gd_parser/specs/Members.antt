-- Members that hold no class, and what the rules of members have found.
use Rattle.std.specs.Prelude.{ℕ, List, Option, Some}
use Rattle.gd_syntax.specs.declared.fault.Place.{Place}
use Rattle.gd_syntax.specs.declared.token.Token.{Token}
use Rattle.gd_syntax.specs.declared.token.Mark.{Mark}
use Rattle.gd_syntax.specs.declared.token.Mark.TheVariants as m
use Rattle.gd_syntax.specs.declared.tree.member.Member.{Member}
use Rattle.gd_syntax.specs.Reading.{Outcome, Read, Reading, ◌>>=◌}
use Rattle.gd_syntax.specs.DeclarationGrammar.{annots}
use Rattle.gd_syntax.specs.MemberGrammar.{is_member_word, annotated, pass, const_line, enum_line, signal_line}
use Rattle.gd_parser.specs.declared.classes.FoundMember.{FoundMember}
use Rattle.gd_parser.specs.declared.classes.FoundMembers.{FoundMembers}

abbrev pub found_member : FoundMember → Outcome (Member × ℕ)
found_member f = Read (f.tree, f.classes) f.at

abbrev pub found_members : FoundMembers → Outcome (List Member × ℕ)
found_members f = Read (f.members, f.classes) f.at

module _ (tokens : List Token) (place : Place) where
  abbrev pub annotated_member : Reading Member
  annotated_member = do before ← annots tokens is_member_word; annotated tokens place before

  -- a member that is no class
  abbrev pub plain_by : Option Mark → Reading Member
  plain_by (Some m.Pass) = pass tokens place
  plain_by (Some m.Const) = const_line tokens place
  plain_by (Some m.Enum) = enum_line tokens place
  plain_by (Some m.Signal) = signal_line tokens place
  plain_by _ = annotated_member
