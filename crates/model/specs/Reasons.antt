-- The reason behind each group (02, request 7): which groups of a positive table, and which of its entries, make s a group
-- after the equation x = t.
use Rattle.std.specs.Prelude.{Bool, not, ◌&&◌, cond, [], ◌∷◌, map, ◌⊎◌, ℕ, suc, ◌<◌, T, length, get_or}
use Rattle.std.proofs.Math.Option.{Option, some, none}
use Rattle.model.specs.Groups.{Bits, Groups, Group, has, meets}
use Rattle.model.specs.Strings.{Trits, covers}
use Rattle.model.specs.Growth.{Entries, covered}
use Rattle.model.specs.Terms.{set_of}
use Rattle.model.specs.Equations.{Equation, WithVariable, WithSome}
use Rattle.model.specs.Questions.{every_group}

-- ---- Statements over groups

-- g is inside s: each variable of g is one of s.
abbrev pub Inside : Bits → Groups
Inside s g = (y : ℕ) → T (has g y) → T (has s y)

-- Some group of S inside s is one of which P holds.
abbrev pub Within : Groups → Bits → Groups → Type 0
Within S s P = (g : Bits) × S g × Inside s g × P g

-- A relevant group: it has x or a variable of t.
abbrev pub Relevant : Equation → Groups
Relevant e g = WithVariable e.left g ⊎ WithSome e.right g

-- The relevant groups of S inside s make up s: each variable of s is in one of them.
abbrev pub MadeUp : Equation → Groups → Bits → Type 0
MadeUp e S s = (y : ℕ) → T (has s y) → Within S s (λ g. Relevant e g × T (has g y))

-- The groups that an entry covers.
abbrev pub CoveredBy : ℕ → Trits → Groups
CoveredBy l e g = Group l g × T (covers e g)

-- Entry i, from 0, covers a group inside s of which P holds, and no entry before it does.
pub record Lowest (l : ℕ) (τ : Entries) (s : Bits) (P : Groups) (i : ℕ) : Type 0 where
  pub below : i < length τ
  pub covers_one : Within (CoveredBy l (get_or τ i [])) s P
  pub none_before : (k : ℕ) → k < i → ¬ (Within (CoveredBy l (get_or τ k [])) s P)

-- ---- The same as tests over all groups of l positions

-- Some group passes the test.
unfoldable pub some_group : ℕ → (Bits → Bool) → Bool
some_group l p = not (every_group l (λ g. not (p g)))

-- g is inside s: it has no variable that s lacks.
unfoldable pub inside : Bits → Bits → Bool
inside s g = not (meets (map not s) g)

-- g is inside s and has a variable of the set m.
unfoldable pub touches : Bits → Bits → Bits → Bool
touches s m g = inside s g && meets m g

-- The entry covers a group inside s that has a variable of m.
unfoldable pub covers_inside : ℕ → Bits → Bits → Trits → Bool
covers_inside l s m e = some_group l (λ g. covers e g && touches s m g)

-- The next number of what was found.
unfoldable pub next : Option ℕ → Option ℕ
next none = none
next (some i) = some (suc i)

-- The lowest entry, from 0, that passes the test, if one does.
unfoldable pub lowest : (Trits → Bool) → Entries → Option ℕ
lowest p [] = none
lowest p (e ∷ τ) = cond (p e) (some 0) (next (lowest p τ))

-- The variables of the table's groups that are inside s and have a variable of m, together.
unfoldable pub together : ℕ → Bits → Bits → Entries → Bits
together l s m τ = set_of l (λ y. some_group l (λ g. covered τ g && (touches s m g && has g y)))

-- These groups make up s: each variable of s is in one of them. They are inside s, so that together they are s then.
unfoldable pub made_up : ℕ → Bits → Bits → Entries → Bool
made_up l s m τ = inside (together l s m τ) s
