-- Worked rows of files with inner classes: their classes are told by the laws of trees, and what a base means is computed.
use Rattle.std.proofs.Common.{◌≡◌, refl, rules}
use Rattle.gd_syntax.specs.declared.tree.member.Member.{the_lemmas as member_lemmas}
use Rattle.folder_rules.specs.Classes.{classes_of, member_classes}
use Rattle.folder_rules.specs.InnerRows.{InnerRows, two_classes, two_entries, own_class, own_entries, nested_classes, nested_entries}
use Rattle.folder_rules.proofs.Compute.{everything}

two_are : classes_of two_classes ≡ two_entries
unfolding classes_of member_classes
two_are = search (rules, member_lemmas)

own_are : classes_of own_class ≡ own_entries
unfolding classes_of member_classes
own_are = search (rules, member_lemmas)

nested_are : classes_of nested_classes ≡ nested_entries
unfolding classes_of member_classes
nested_are = search (rules, member_lemmas)

pub inner_rows : InnerRows
unfolding everything
inner_rows = record { two = two_are; inner = refl; own_one = own_are; own_inner = refl; nested = nested_are; nearest = refl; outer = refl }
