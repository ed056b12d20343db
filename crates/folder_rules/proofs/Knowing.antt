-- What is known of the files that bases and constants lead to is enough.
use Rattle.std.proofs.Common.{◌↔◌, ℕ, Result, List, sym, ap, ◌∙◌}
use Rattle.gd_syntax.specs.declared.fault.LoadFault.{LoadFault}
use Rattle.folder_meaning.specs.KnownValue.{KnownValue}
use Rattle.folder_meaning.specs.declared.facts.Content.{Content}
use Rattle.facts.specs.Facts.{HasFact}
use Rattle.facts.specs.Reach.{here}
use Rattle.folder_rules.specs.KnownFolder.{known_content, known_folder, IsKnownWhole, IsKnownOf}
use Rattle.folder_rules.specs.Loads.{HasFault}
use Rattle.folder_rules.specs.Nodes.{Node, FactOf, Fault}
use Rattle.folder_rules.specs.Reached.{HasSameReads, IsRead, file_of, with_look}
use Rattle.folder_rules.specs.Rules.{rules_of}
use Rattle.folder_rules.proofs.Alike.{same_facts, same_file_faults}

module _ (paths : List (List ℕ)) (known : KnownValue) (look : ℕ → Result Content LoadFault) (file : ℕ) (whole : IsKnownWhole paths known file) (true_of : IsKnownOf paths known look) where
  alike : HasSameReads (known_folder paths known) look file
  alike read r = let w = whole read r in ap known_content w.1 ∙ sym (true_of read w.0 w.1)

  pub known_facts : (n : Node) → IsRead (known_folder paths known) file (file_of n) → (f : FactOf n) → HasFact (rules_of (known_folder paths known)) n f ↔ HasFact (rules_of (with_look (known_folder paths known) look)) n f
  known_facts n i f = same_facts (known_folder paths known) look file alike n i f

  pub known_faults : (x : Fault) → HasFault (known_folder paths known) file x ↔ HasFault (with_look (known_folder paths known) look) file x
  known_faults x = same_file_faults (known_folder paths known) look file alike file here x
