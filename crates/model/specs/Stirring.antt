-- When a string that changed nothing may change a list that has grown since (a word for laws about growing).
use Rattle.std.specs.Prelude.{Bool, false, ◌&&◌, ◌||◌, [], ◌∷◌}
use Rattle.model.specs.Strings.{Trits, subsumes_digit, subsumes, fixed_digit, flip}

-- e stirs s, which was widened to z: at some position that is fixed in z, e subsumes s as it is when Widen comes there (that
-- is z before the position and s from it on) with that value flipped.
unfoldable pub stirs : Trits → Trits → Trits → Bool
stirs [] s z = false
stirs (t ∷ e) [] z = false
stirs (t ∷ e) (u ∷ s) [] = false
stirs (t ∷ e) (u ∷ s) (v ∷ z) =
    (fixed_digit v && subsumes_digit t (flip v) && subsumes e s) || (subsumes_digit t v && stirs e s z)
