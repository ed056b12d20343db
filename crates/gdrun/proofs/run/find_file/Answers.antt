use Rattle.std.proofs.Common.{◌≡◌, true, false, ◌∙◌}
use Rattle.std.specs.Prelude.{bytes_eq, string_bytes}
use Rattle.gdrun.proofs.Found.{found, passed, within_limit}
use Rattle.gdrun.proofs.run.find_file.Goals as goal

pub returns-then-eq-clause-found : goal.returns-then-eq-clause-found
returns-then-eq-clause-found c =
    let file = c.file-item.result in
    let test : bytes_eq c.args.path.now (string_bytes file.path) ≡ true = cc in
    found c.args.image.now c.loop-file.file-index file c.loop-file-test.true c.file-item.is c.args.path.now c.loop-file.invariant test

pub returns-then-eq-clause-short : goal.returns-then-eq-clause-short
returns-then-eq-clause-short c = within_limit c.args.image.now c.loop-file.file-index c.file-item.result c.loop-file-test.true c.file-item.is c.args.path.now c.requires

pub loop-file-preserved : goal.loop-file-preserved
loop-file-preserved c =
    let file = c.file-item.result in
    let test : bytes_eq c.args.path.now (string_bytes file.path) ≡ false = cc in
    passed c.args.image.now c.loop-file.file-index file c.loop-file-test.true c.file-item.is c.args.path.now test ∙ c.loop-file.invariant
