use Rattle.std.proofs.Common.{◌≡◌, false, length}
use Rattle.scene_syntax.specs.Lines.{is_solid, last_passes}
use Rattle.text_scene.proofs.characters.ends_solid.Given as goal

abbrev pub invariant-loop-rest : goal.invariant-loop-rest
invariant-loop-rest l = last_passes is_solid l.last l.rest ≡ last_passes is_solid false l.fn.text

abbrev pub decreases-loop-rest : goal.decreases-loop-rest
decreases-loop-rest l = length l.rest
