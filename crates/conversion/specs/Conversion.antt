-- The words that are converted.
use Rattle.std.specs.Prelude.{Bool, true, ◌&&◌, List, [], ◌∷◌, ℕ, ◌^◌, ltb}

-- No word has a bit above l.
unfoldable pub all_below : ℕ → List ℕ → Bool
all_below l [] = true
all_below l (w ∷ ws) = ltb w (2 ^ l) && all_below l ws
