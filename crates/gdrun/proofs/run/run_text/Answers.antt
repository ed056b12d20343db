use Rattle.std.proofs.Common.{refl}
use Rattle.gd_syntax.specs.FirstScript.{script_of}
use Rattle.gdrun.specs.FileReading.{taken}
use Rattle.gdrun.proofs.Texts.{refused_text}
use Rattle.gdrun.proofs.run.run_text.Goals as goal

pub returns-in-Ok : goal.returns-in-Ok
returns-in-Ok g c = record {
  outcome = _;
  means = record { reading = taken (script_of c.in-Ok.script); read = c.in-Ok.ensures; is = refl };
  wrote = c.run_script.ensures;
}

pub returns-in-Err : goal.returns-in-Err
returns-in-Err g c =
    let wrote = rw c.as_str.ensures at c.refuse_text.ensures in
    refused_text c.args.path c.args.steps c.args.text.now c.in-Err.error _ _ _ c.in-Err.ensures wrote
