-- What a token is, for the sorts of tokens that declarations look for.
use Rattle.std.proofs.Common.{◌≡◌, ◌≢◌, ℕ, Bool, true, false, List, Some, None, refl}
use Rattle.gd_syntax.specs.declared.token.Kind.{Kind}
use Rattle.gd_syntax.specs.declared.token.Kind.TheVariants.{Mark as Marked, Name, Int, Text}
use Rattle.gd_syntax.specs.declared.token.Mark.TheVariants as m
use Rattle.gd_syntax.specs.TokenReading.{mark_of}
use Rattle.gd_syntax.specs.DeclarationGrammar.{annotation_word, const_sign}

-- names of annotations
pub word_some : (may : List ℕ → Bool) (k : Kind) (text : List ℕ) → k ≡ Name text → may text ≡ true → annotation_word may k ≡ Some text
word_some may k text e p = rw (e, p)

pub word_none : (may : List ℕ → Bool) (k : Kind) (text : List ℕ) → k ≡ Name text → may text ≡ false → annotation_word may k ≡ None
word_none may k text e p = rw (e, p)

pub word_other : (may : List ℕ → Bool) (k : Kind) → ((text : List ℕ) → k ≢ Name text) → annotation_word may k ≡ None
word_other may (Name text) n = absurd (n text refl)
word_other may (Marked a) n = refl
word_other may (Int a) n = refl
word_other may (Text a) n = refl

-- the signs before the value of a constant
pub assign_sign : (k : Kind) → mark_of k ≡ Some m.Assign → const_sign k ≡ Some tt
assign_sign (Marked a) e = let h : a ≡ m.Assign = cc e in rw h
assign_sign (Name text) e = absurd (cc e)
assign_sign (Int a) e = absurd (cc e)
assign_sign (Text a) e = absurd (cc e)

pub typed_sign : (k : Kind) → mark_of k ≡ Some m.ColonAssign → const_sign k ≡ Some tt
typed_sign (Marked a) e = let h : a ≡ m.ColonAssign = cc e in rw h
typed_sign (Name text) e = absurd (cc e)
typed_sign (Int a) e = absurd (cc e)
typed_sign (Text a) e = absurd (cc e)

pub no_sign : (k : Kind) → mark_of k ≢ Some m.Assign → mark_of k ≢ Some m.ColonAssign → const_sign k ≡ None
no_sign (Marked m.Assign) x y = absurd (x refl)
no_sign (Marked m.ColonAssign) x y = absurd (y refl)
no_sign _ x y = refl
