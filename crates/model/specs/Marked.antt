-- The rows a to j of 01, "Marked for proof", row f as request 6 of 02 has it: one list of cases, and what it is for a case to hold.
use Rattle.std.specs.Prelude.{◌≡◌, true, false, List, [], ◌∷◌, ℕ}
use Rattle.std.proofs.Math.Option.{some}
use Rattle.model.specs.Groups.{Bits}
use Rattle.model.specs.Strings.{Trit, t0, t1, t*, Trits, or_digit}
use Rattle.model.specs.Growth.{Entries, grow, convert}
use Rattle.model.specs.Tables.{positive, change_side, projection}
use Rattle.model.specs.Questions.{equal, ground}
use Rattle.model.specs.Terms.{Term, var, head, nil, cons}
use Rattle.model.specs.Equations.{Equation, equation}

-- What is given, and the result.
pub data Case : Type 0 where
  or_is : Trit → Trit → Trit → Case
  grown_is : Entries → Trits → Entries → Case
  converted_is : List Bits → Entries → Case
  equated_is : Entries → Equation → Entries → Case
  is_ground : Entries → ℕ → Case
  changed_is : Entries → Entries → Case
  projected_is : Entries → Bits → Entries → Case
  are_equal : Entries → Entries → Case
  any_equation_gives : Entries → Entries → Case

-- The case holds. All tables are positive; those of the first list have three variables, the two compared have two.
unfoldable pub Holds : Case → Type 0
Holds (or_is a b c) = or_digit a b ≡ c
Holds (grown_is τ y ρ) = grow τ y ≡ some ρ
Holds (converted_is gs ρ) = convert gs ≡ some ρ
Holds (equated_is τ e ρ) = equation positive 3 e τ ≡ some ρ
Holds (is_ground τ x) = ground positive 3 τ x ≡ true
Holds (changed_is τ ρ) = change_side 3 τ ≡ some ρ
Holds (projected_is τ k ρ) = projection positive 3 k τ ≡ some ρ
Holds (are_equal τ ρ) = equal positive 2 τ ρ ≡ true
Holds (any_equation_gives τ ρ) = (l : ℕ) (e : Equation) → equation positive l e τ ≡ some ρ

-- Every case of a list holds.
unfoldable pub All : List Case → Type 0
All [] = Unit {0}
All (c ∷ cs) = Holds c × All cs

-- The equation x = t.
abbrev pub equate : ℕ → Term → Equation
equate x t = record { left = x; right = t }

-- f(Xi), with symbol 1.
abbrev pub f_of : ℕ → Term
f_of i = head 1 (cons (var i) nil)

-- The constant a, with symbol 2.
abbrev pub a_constant : Term
a_constant = head 2 nil

-- The table of row c.
abbrev pub table_c : Entries
table_c = (t1 ∷ t0 ∷ t0 ∷ []) ∷ (t0 ∷ t1 ∷ t* ∷ []) ∷ (t0 ∷ t* ∷ t1 ∷ []) ∷ []

-- The table of row d.
abbrev pub table_d : Entries
table_d = (t0 ∷ t0 ∷ t1 ∷ []) ∷ (t1 ∷ t1 ∷ t* ∷ []) ∷ []

-- The table of row e.
abbrev pub table_e : Entries
table_e = (t1 ∷ t1 ∷ t0 ∷ []) ∷ []

-- Rows a to j.
unfoldable pub marked : List Case
marked =
    or_is t0 t* t*
    ∷ or_is t1 t* t1
    ∷ grown_is ((t1 ∷ t0 ∷ t* ∷ []) ∷ []) (t1 ∷ t0 ∷ t0 ∷ []) ((t1 ∷ t0 ∷ t* ∷ []) ∷ [])
    ∷ converted_is
    ((true ∷ false ∷ false ∷ []) ∷ (false ∷ true ∷ false ∷ []) ∷ (false ∷ true ∷ true ∷ []) ∷ (false ∷ false ∷ true ∷ []) ∷ [])
    table_c
    ∷ equated_is table_c (equate 1 (f_of 2)) table_d
    ∷ equated_is table_d (equate 3 a_constant) table_e
    ∷ is_ground table_e 3
    ∷ equated_is
    ((t1 ∷ t1 ∷ t0 ∷ []) ∷ (t1 ∷ t0 ∷ t1 ∷ []) ∷ [])
    (equate 1 (var 1))
    ((t1 ∷ t1 ∷ t0 ∷ []) ∷ (t1 ∷ t0 ∷ t1 ∷ []) ∷ [])
    ∷ changed_is table_c ((t1 ∷ t1 ∷ t* ∷ []) ∷ (t1 ∷ t* ∷ t1 ∷ []) ∷ [])
    ∷ projected_is table_d (true ∷ true ∷ false ∷ []) ((t1 ∷ t1 ∷ []) ∷ [])
    ∷ are_equal ((t0 ∷ t* ∷ []) ∷ (t1 ∷ t* ∷ []) ∷ []) ((t* ∷ t* ∷ []) ∷ [])
    ∷ any_equation_gives [] []
    ∷ []
