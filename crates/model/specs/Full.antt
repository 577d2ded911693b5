-- Where a procedure needs entry 257 (01, refusal 8): some list of the growth rule in it does.
use Rattle.std.specs.Prelude.{◌≡◌, List, [], ◌∷◌, ◌++◌, map, ◌⊎◌, ℕ}
use Rattle.std.proofs.Math.Option.{Option, some, none}
use Rattle.model.specs.Groups.{Bits, or, cut}
use Rattle.model.specs.Strings.{exactly, zeros, ones, stars}
use Rattle.model.specs.Growth.{Entries, grow, grow_all, Full, Meets, Overflows}
use Rattle.model.specs.Tables.{Side, positive, negative, meets_of, ors, unmatched, pieces_of, relevant, irrelevant, cross}
use Rattle.model.specs.Tables.{close_with, close, take_away, change_side, kept, positive_projection}
use Rattle.model.specs.Terms.{var, variables}
use Rattle.model.specs.Equations.{Equation, Kind, itself, deeper, plain, kind}
use Rattle.model.specs.Walk.{Walked}
use Rattle.model.specs.Unification.{next_equation}

-- F holds; or the list is made, and of it G holds.
abbrev pub OrLater : {A : Type 0} → Type 0 → Option A → (A → Type 0) → Type 0
OrLater F o G = F ⊎ ((a : _) × (o ≡ some a) × G a)

-- Close: for some c, the list R grown by "r or c" for each r, then by c.
abbrev pub CloseFull : Entries → Type 0
CloseFull = Meets (λ R c. Overflows R (ors R (c ∷ []) ++ (c ∷ []))) close_with []

-- Convert: some string of the row.
abbrev pub ConvertFull : List Bits → Type 0
ConvertFull gs = Overflows [] (map exactly gs)

-- Change of side: for some entry v, one of the strings formed.
abbrev pub ChangeFull : ℕ → Entries → Type 0
ChangeFull l = Meets (λ R v. Overflows (unmatched v R) (pieces_of v R)) take_away (stars l ∷ [])

-- Equation, positive: the irrelevant entries, the relevant ones of x and of t, their cross, its closure, or the last list.
unfoldable pub PositiveFull : Bits → Bits → Entries → Type 0
PositiveFull x t τ =
    OrLater (Overflows [] (meets_of τ (zeros (or x t) ∷ []))) (irrelevant (or x t) τ) (λ I.
    OrLater (Overflows [] (meets_of τ (ones x))) (relevant x τ) (λ A.
    OrLater (Overflows [] (meets_of τ (ones t))) (relevant t τ) (λ B.
    OrLater (Overflows [] (ors A B)) (cross A B) (λ C.
    OrLater (CloseFull C) (close C) (λ K. Overflows I K)))))

-- Equation, negative: P, Q, C, the two changes of side, the cross, its closure, the change back, or the last list.
unfoldable pub NegativeFull : ℕ → Bits → Bits → Entries → Type 0
NegativeFull l x t τ =
    OrLater (Full τ (zeros x)) (grow τ (zeros x)) (λ P.
    OrLater (Full τ (zeros t)) (grow τ (zeros t)) (λ Q.
    OrLater (Overflows τ (ones (or x t))) (grow_all τ (ones (or x t))) (λ C.
    OrLater (ChangeFull l P) (change_side l P) (λ A.
    OrLater (ChangeFull l Q) (change_side l Q) (λ B.
    OrLater (Overflows [] (ors A B)) (cross A B) (λ J.
    OrLater (CloseFull J) (close J) (λ R.
    OrLater (ChangeFull l R) (change_side l R) (λ K. Overflows [] (meets_of C K)))))))))

-- Equation, of either side, for a set with x alone and the set of t's variables.
unfoldable pub SetsFull : Side → ℕ → Bits → Bits → Entries → Type 0
SetsFull positive l x t τ = PositiveFull x t τ
SetsFull negative l x t τ = NegativeFull l x t τ

-- An equation of a kind: where t holds x, no list grows.
unfoldable pub KindFull : Kind → Side → ℕ → Equation → Entries → Type 0
KindFull itself side l e τ = ⊥
KindFull deeper side l e τ = ⊥
KindFull plain side l e τ = SetsFull side l (variables l (var e.left)) (variables l e.right) τ

-- Equation x = t, of either side.
abbrev pub EquationFull : Side → ℕ → Equation → Entries → Type 0
EquationFull side l e τ = KindFull (kind e) side l e τ

-- Join, of either side.
unfoldable pub JoinFull : Side → Entries → Entries → Type 0
JoinFull positive τ ρ = Overflows τ ρ
JoinFull negative τ ρ = Overflows [] (meets_of τ ρ)

-- Projection, of either side.
unfoldable pub ProjectionFull : Side → ℕ → Bits → Entries → Type 0
ProjectionFull positive l k τ = Overflows [] (map (cut k) τ)
ProjectionFull negative l k τ =
    OrLater (ChangeFull l τ) (change_side l τ) (λ P.
    OrLater (Overflows [] (map (cut k) P)) (positive_projection k P) (λ C. ChangeFull (kept k) C))

-- Equations in order: some list of one of them, on the entries that those before it give.
abbrev pub EachFull : Side → ℕ → Entries → List Equation → Type 0
EachFull side l = Meets (λ τ e. EquationFull side l e τ) (next_equation side l)

-- A walk: some list of one of the found equations; a clash needs none.
unfoldable pub WalkFull : Side → ℕ → Walked → Entries → Type 0
WalkFull side l none τ = ⊥
WalkFull side l (some es) τ = EachFull side l τ es
