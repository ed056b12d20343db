-- Worked rows of bases: by computation.
use Rattle.std.proofs.Common.{◌≡◌, refl, Some}
use Rattle.facts.specs.Evaluation.{Waits}
use Rattle.facts.specs.Facts.{IsAtFault}
use Rattle.facts.specs.Needs.{Needs, one, more}
use Rattle.facts.proofs.Cycles.{needs_itself}
use Rattle.facts.proofs.Evaluation.{waits_requires}
use Rattle.gd_syntax.specs.declared.fault.FaultKind.TheVariants.{CyclicInheritance}
use Rattle.folder_rules.specs.BaseRows.{BaseRows, ring}
use Rattle.folder_rules.specs.Nodes.{Base}
use Rattle.folder_rules.specs.Rules.{rules_of}
use Rattle.folder_rules.specs.SmallFolders.{at, class_id, comes_to, fault_at}
use Rattle.folder_rules.proofs.Compute.{everything}

first_waits : comes_to ring (Base (class_id 0 0)) ≡ Waits (Base (class_id 1 0))
unfolding everything
first_waits = refl

second_waits : comes_to ring (Base (class_id 1 0)) ≡ Waits (Base (class_id 0 0))
unfolding everything
second_waits = refl

first_needs : Needs (rules_of ring) (Base (class_id 0 0)) (Base (class_id 0 0))
first_needs = more (waits_requires (rules_of ring) 12 (Base (class_id 0 0)) (Base (class_id 1 0)) first_waits) (one (waits_requires (rules_of ring) 12 (Base (class_id 1 0)) (Base (class_id 0 0)) second_waits))

second_needs : Needs (rules_of ring) (Base (class_id 1 0)) (Base (class_id 1 0))
second_needs = more (waits_requires (rules_of ring) 12 (Base (class_id 1 0)) (Base (class_id 0 0)) second_waits) (one (waits_requires (rules_of ring) 12 (Base (class_id 0 0)) (Base (class_id 1 0)) first_waits))

first_turns : (rules_of ring).cycle_fault (Base (class_id 0 0)) ≡ Some (fault_at 2 CyclicInheritance (at 1 9))
unfolding everything
first_turns = refl

second_turns : (rules_of ring).cycle_fault (Base (class_id 1 0)) ≡ Some (fault_at 2 CyclicInheritance (at 1 9))
unfolding everything
second_turns = refl

pub base_rows : BaseRows
unfolding everything
base_rows = record {
  path = refl;
  path_links = refl;
  path_bases = refl;
  none = refl;
  missing_file = refl;
  missing_links = refl;
  settings_file = refl;
  scene_file = refl;
  unknown_name = refl;
  in_native_class = refl;
  taken_first = refl;
  taken_second = refl;
  taken_means_first = refl;
  taken_links = refl;
  taken_bases = refl;
  taken_native = refl;
  ring_first = first_waits;
  ring_second = second_waits;
  ring_first_fault = IsAtFault.in_cycle first_turns (needs_itself (rules_of ring) (Base (class_id 0 0)) first_needs);
  ring_second_fault = IsAtFault.in_cycle second_turns (needs_itself (rules_of ring) (Base (class_id 1 0)) second_needs);
  ring_outside = refl;
}
