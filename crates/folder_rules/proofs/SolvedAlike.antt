-- Stage 2 of a file comes to the same where its facts and its faults are the same.
use Rattle.std.proofs.Common.{◌↔◌, ℕ, List, Result}
use Rattle.gd_syntax.specs.declared.fault.LoadFault.{LoadFault}
use Rattle.variant_values.specs.declared.classes.ClassTag.{ClassTag}
use Rattle.folder_meaning.specs.KnownValue.{KnownValue}
use Rattle.folder_meaning.specs.declared.facts.Content.{Content}
use Rattle.facts.specs.Facts.{HasFact}
use Rattle.facts.specs.Reach.{here}
use Rattle.folder_rules.specs.Folders.{Folder}
use Rattle.folder_rules.specs.KnownFolder.{known_folder, IsKnownWhole, IsKnownOf}
use Rattle.folder_rules.specs.Loads.{HasFault}
use Rattle.folder_rules.specs.Nodes.{Base, Fault}
use Rattle.folder_rules.specs.Reached.{with_look}
use Rattle.folder_rules.specs.Rules.{rules_of}
use Rattle.folder_rules.specs.Solving.{Solving, ComesTo}
use Rattle.folder_rules.proofs.Knowing.{known_facts, known_faults}

-- the same faults and the same ancestors
record IsLike (one two : Folder) (file : ℕ) : Type 0 where
  there : (x : Fault) → HasFault one file x → HasFault two file x
  back : (x : Fault) → HasFault two file x → HasFault one file x
  fact_there : (index : ℕ) (f : List ClassTag) → HasFact (rules_of one) (Base (record { file = file; index = index })) f → HasFact (rules_of two) (Base (record { file = file; index = index })) f
  fact_back : (index : ℕ) (f : List ClassTag) → HasFact (rules_of two) (Base (record { file = file; index = index })) f → HasFact (rules_of one) (Base (record { file = file; index = index })) f

comes_there : (one two : Folder) (file : ℕ) (content : Content) → IsLike one two file → (v : Solving) → ComesTo one file content v → ComesTo two file content v
comes_there one two file content k v (ComesTo.solved n a) = ComesTo.solved (λ x f s. n x (k.back x f) s) (λ index h. let w = a index h in (w.0, k.fact_there index w.0 w.1))
comes_there one two file content k v (ComesTo.refused {x = x} f) = ComesTo.refused (record { is = k.there x f.is; at = f.at; least = λ y g s. f.least y (k.back y g) s })
comes_there one two file content k v (ComesTo.held_up n w) = ComesTo.held_up (λ x f s. n x (k.back x f) s) (record { index = w.index; within = w.within; is = λ f h. w.is f (k.fact_back w.index f h) })

like_back : (one two : Folder) (file : ℕ) → IsLike one two file → IsLike two one file
like_back one two file k = record { there = k.back; back = k.there; fact_there = k.fact_back; fact_back = k.fact_there }

module _ (paths : List (List ℕ)) (known : KnownValue) (look : ℕ → Result Content LoadFault) (file : ℕ) (whole : IsKnownWhole paths known file) (true_of : IsKnownOf paths known look) where
  abbrev near : Folder
  near = known_folder paths known

  abbrev far : Folder
  far = with_look (known_folder paths known) look

  like : IsLike near far file
  like = record {
    there = λ x. (known_faults paths known look file whole true_of x).0;
    back = λ x. (known_faults paths known look file whole true_of x).1;
    fact_there = λ index f. (known_facts paths known look file whole true_of (Base (record { file = file; index = index })) here f).0;
    fact_back = λ index f. (known_facts paths known look file whole true_of (Base (record { file = file; index = index })) here f).1;
  }

  pub known_solving : (content : Content) (v : Solving) → ComesTo near file content v ↔ ComesTo far file content v
  known_solving content v = (comes_there near far file content like v, comes_there far near file content (like_back near far file like) v)
