-- What the places of a value stand for.
use Rattle.scene_syntax.specs.Values as spec
use Rattle.text_scene.specs.declared.values.Inside.{Inside}
use Rattle.text_scene.specs.declared.values.Inside.TheVariants.{Outside, Quoted, Escaped}

abbrev pub inside_of : Inside → spec.Inside
inside_of Outside = spec.outside
inside_of Quoted = spec.quoted
inside_of Escaped = spec.escaped
