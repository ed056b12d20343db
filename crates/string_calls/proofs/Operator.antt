-- The text of a format as the value of an operator.
use Rattle.std.proofs.Common.{◌≡◌, ap, refl, ℕ, List, Result, Ok, Err}
use Rattle.variant_values.specs.declared.faults.RunFault.{RunFault}
use Rattle.variant_values.specs.declared.faults.Trouble.{Trouble}
use Rattle.variant_values.specs.declared.faults.Trouble.TheVariants.{Fault, NoMemory}
use Rattle.variant_values.specs.Changes.{HasGiven, looked}
use Rattle.variant_values.specs.Heaps.{Heap}
use Rattle.variant_values.specs.Operations.{text_answer}
use Rattle.variant_values.specs.Operators.{Answers}
use Rattle.variant_values.specs.StringMethods.{string_result}

pub text_given : (h : Heap) (r : Result (List ℕ) Trouble) (o : Result (List ℕ) RunFault) → Answers r o → HasGiven (text_answer r) h h (looked h (string_result o))
text_given h (Ok text) o is = ap (λ q. looked h (string_result q)) is
text_given h (Err (Fault fault)) o is = (ap (λ q. looked h (string_result q)) is, refl)
text_given h (Err NoMemory) o is = tt
