-- The global name that a file's header gives, and that of its tree.
use Rattle.std.specs.Prelude.{◌≡◌, ℕ, List, [], ◌∷◌, Option, Some, None, Ok}
use Rattle.gd_syntax.specs.declared.token.Token.{Token}
use Rattle.gd_syntax.specs.declared.tree.member.Head.{Head}
use Rattle.gd_syntax.specs.declared.tree.member.Head.TheVariants as h
use Rattle.gd_syntax.specs.declared.tree.member.Script.{Script}
use Rattle.gd_syntax.specs.Header.{Global, global_of, header_end_of}
use Rattle.gd_syntax.specs.Layout.{tokens_in_bytes}
use Rattle.gd_syntax.specs.Reading.{Read}
use Rattle.gd_syntax.specs.ScriptGrammar.{script}

-- the name that a head gives, in front of those behind it
abbrev pub named_onto : Head → Option Global → Option Global
named_onto (h.ClassName place name b) behind = Some (record { name = name.name; place = name.place })
named_onto _ behind = behind

-- the name that the first `class_name` of the heads gives
unfoldable pub heads_name : List Head → Option Global
heads_name [] = None
heads_name (x ∷ heads) = named_onto x (heads_name heads)

-- Where a file is read, its header gives the name that its heads give, at the same place, or both give none.
abbrev pub NamesAgree : List ℕ → Type 0
NamesAgree bytes =
    (tokens : List Token) (tree : Script) (next : ℕ)
    → tokens_in_bytes bytes ≡ Ok tokens → script tokens (header_end_of bytes) 0 (Read tree next) → global_of bytes ≡ heads_name tree.heads
