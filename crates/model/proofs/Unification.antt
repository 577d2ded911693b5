-- The groups after a walk are exactly those of the entries that the growth rule gives, and those entries are good again, both
-- sides (02, request 2). Assumes nothing.
use mathlib.Core.Path.{◌≡◌, refl, sym, ap, ◌∙◌, subst}
use mathlib.Core.List.{List, [], ◌∷◌, ◌++◌}
use mathlib.Core.Logic.Iff
use mathlib.Core.Logic.{inl, inr}
use mathlib.Core.Option.{Option, some, none}
use Prim.Native.Nat.{ℕ, ◌<◌}
use Rattle.model.specs.Groups.{Bits, Groups, one, more, AOrB, Those}
use Rattle.model.specs.Growth.{◌>>=◌, fold, Entries, Reduced}
use Rattle.model.specs.Tables.{Side, Good, groups, no_groups}
use Rattle.model.specs.Questions.{Equal}
use Rattle.model.specs.Equations.{Equation, Kind, itself, deeper, plain, kind, WithVariable, WithSome, AfterKind, After}
use Rattle.model.specs.Equations.{equation_of_kind, equation}
use Rattle.model.specs.Walk.{Walked}
use Rattle.model.specs.Unification.{AfterEach, AfterWalk, next_equation, walk_entries}
use Rattle.model.proofs.Bits.{ors_map}
use Rattle.model.proofs.Given.{Given, given, given_at, given_map, given_then, Each}
use Rattle.model.proofs.Exact.{shape_good, no_groups_made, equation_made}

-- ---- More groups before, more groups after

-- every group of the one is one of the other
abbrev Within : Groups → Groups → Type 0
Within S R = (g : Bits) → S g → R g

kind_more : (k : Kind) {S R : Groups} → Within S R → (e : Equation) → Within (AfterKind k e S) (AfterKind k e R)
unfolding AfterKind
kind_more itself f e g k = f g k
kind_more deeper f e g k = k
kind_more plain f e g (inl k) = inl (f g k.0, k.1, k.2)
kind_more plain {S} {R} f e g (inr k) = inr (ors_map pairs k)
  where
    pairs : Within (AOrB (Those S (WithVariable e.left)) (Those S (WithSome e.right)))
        (AOrB (Those R (WithVariable e.left)) (Those R (WithSome e.right)))
    pairs h p = record {
      a = p.a;
      b = p.b;
      in_a = (f p.a p.in_a.0, p.in_a.1);
      in_b = (f p.b p.in_b.0, p.in_b.1);
      is = p.is;
    }

each_more : (es : List Equation) {S R : Groups} → Within S R → Within (AfterEach es S) (AfterEach es R)
unfolding AfterEach
each_more [] f g k = f g k
each_more (e ∷ es) f g k = each_more es (kind_more (kind e) f e) g k

-- ---- What is made of good entries

-- good entries with exactly these groups, and reduced where the entries before were
record Made (side : Side) (l : ℕ) (S : Groups) (τ ρ : Entries) : Type 0 where
  good : Good l ρ
  exact : Equal (groups side l ρ) S
  reduced : 0 < l → Reduced τ → Reduced ρ

one_made : (side : Side) (l : ℕ) (e : Equation) (τ : Entries) → Good l τ
    → Given (Made side l (After e (groups side l τ)) τ) (equation side l e τ)
one_made side l e τ w =
    given_map (λ ρ s. record { good = shape_good s.shape; exact = s.equal; reduced = λ h r. s.shape.reduced (h, r) })
    (equation_made side l e τ w)

none_made : (side : Side) (l : ℕ) (τ : Entries) → Made side l (λ g. ⊥) τ (no_groups side l)
none_made side l τ =
    let s = no_groups_made side l in
    record { good = shape_good s.shape; exact = s.equal; reduced = λ h r. s.shape.reduced h }

module _ (side : Side) (l : ℕ) where
  each_made : (es : List Equation) (τ : Entries) → Good l τ
      → Given (Made side l (AfterEach es (groups side l τ)) τ) (fold (next_equation side l) τ es)
  unfolding fold AfterEach
  each_made [] τ w = given (record { good = w; exact = λ g. (λ k. k, λ k. k); reduced = λ h r. r })
  each_made (e ∷ es) τ w =
      given_then _ (one_made side l e τ w)
      (λ υ m. given_map (λ ρ k. record {
        good = k.good;
        exact = λ g. Iff.trans (k.exact g) (
          each_more es (λ h. (m.exact h).0) g,
          each_more es (λ h. (m.exact h).1) g,
        );
        reduced = λ h r. k.reduced h (m.reduced h r);
      }) (each_made es υ m.good))

  walk_made : (o : Walked) (τ : Entries) → Good l τ
      → Given (Made side l (AfterWalk o (groups side l τ)) τ) (walk_entries side l o τ)
  unfolding walk_entries AfterWalk
  walk_made none τ w = given (none_made side l τ)
  walk_made (some es) τ w = each_made es τ w

-- ---- The three promises

module _ (side : Side) (l : ℕ) (o : Walked) (τ ρ : Entries) (good : Good l τ) (gives : walk_entries side l o τ ≡ some ρ) where
  -- The groups after a walk are those of the found equations in order; none after a clash.
  pub walk_exact : Equal (groups side l ρ) (AfterWalk o (groups side l τ))
  walk_exact = (given_at (walk_made side l o τ good) ρ gives).exact

  -- The entries are good again,
  pub walk_good : Good l ρ
  walk_good = (given_at (walk_made side l o τ good) ρ gives).good

  -- and reduced where those before were.
  pub walk_reduced : 0 < l → Reduced τ → Reduced ρ
  walk_reduced = (given_at (walk_made side l o τ good) ρ gives).reduced

-- ---- Self equations in a walk (02, request 6)

-- No groups before, none after.
none_kind : (k : Kind) (S : Groups) → ((g : Bits) → ¬ (S g)) → (e : Equation) (g : Bits) → ¬ (AfterKind k e S g)
unfolding AfterKind
none_kind itself S n e g h = n g h
none_kind deeper S n e g h = h
none_kind plain S n e g (inl h) = n g h.0
none_kind plain S n e g (inr (one p)) = n p.a p.in_a.0
none_kind plain S n e g (inr (more p q)) = n p.a p.in_a.0

none_after : (es : List Equation) (S : Groups) → ((g : Bits) → ¬ (S g)) → (g : Bits) → ¬ (AfterEach es S g)
unfolding AfterEach
none_after [] S n g h = n g h
none_after (e ∷ es) S n g h = none_after es (After e S) (λ k. none_kind (kind e) S n e k) g h

-- After a deeper equation, found anywhere in a walk, there are no groups.
pub deeper_none : (es fs : List Equation) (e : Equation) → kind e ≡ deeper → (S : Groups) (g : Bits)
    → ¬ (AfterWalk (some (es ++ (e ∷ fs))) S g)
unfolding AfterWalk AfterEach AfterKind
deeper_none [] fs e k S g h = none_after fs (After e S) (λ k'. subst (λ (d : Kind). ¬ (AfterKind d e S k')) (sym k) (λ z. z)) g h
deeper_none (d ∷ es) fs e k S g h = deeper_none es fs e k (After d S) g h

module _ (side : Side) (l : ℕ) where
  abbrev entries_after : List Equation → Entries → Option Entries
  entries_after es τ = fold (next_equation side l) τ es

  -- x = x leaves the entries.
  pub itself_entries : (e : Equation) → kind e ≡ itself → (τ : Entries) → equation side l e τ ≡ some τ
  unfolding equation equation_of_kind
  itself_entries e k τ = rw k

  -- A deeper equation gives those that stand for no groups.
  pub deeper_entries : (e : Equation) → kind e ≡ deeper → (τ : Entries) → equation side l e τ ≡ some (no_groups side l)
  unfolding equation equation_of_kind
  deeper_entries e k τ = rw k

  -- x = x, found anywhere in a walk, may be left out: the same entries in the same order, and full where it was.
  pub itself_same : (es fs : List Equation) (e : Equation) → kind e ≡ itself → (τ : Entries)
      → walk_entries side l (some (es ++ (e ∷ fs))) τ ≡ walk_entries side l (some (es ++ fs)) τ
  unfolding walk_entries fold ◌>>=◌
  itself_same [] fs e k τ = ap (λ (o : Option Entries). o >>= λ ρ. entries_after fs ρ) (itself_entries e k τ)
  itself_same (d ∷ es) fs e k τ = go (equation side l d τ) (λ ρ. itself_same es fs e k ρ)
    where
      go : (o : Option Entries) → ((ρ : Entries) → entries_after (es ++ (e ∷ fs)) ρ ≡ entries_after (es ++ fs) ρ)
          → (o >>= λ ρ. entries_after (es ++ (e ∷ fs)) ρ) ≡ (o >>= λ ρ. entries_after (es ++ fs) ρ)
      go none h = refl
      go (some ρ) h = h ρ

  -- A walk that finds only such leaves the entries.
  pub only_itself : (es : List Equation) → Each (λ (e : Equation). kind e ≡ itself) es → (τ : Entries)
      → walk_entries side l (some es) τ ≡ some τ
  unfolding walk_entries fold Each ◌>>=◌
  only_itself [] a τ = refl
  only_itself (e ∷ es) a τ =
      ap (λ (o : Option Entries). o >>= λ ρ. entries_after es ρ) (itself_entries e a.0 τ) ∙ only_itself es a.1 τ
