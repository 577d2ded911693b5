-- What growing keeps of a list: the length of its entries, the limit, and that it is a grown list. Assumes nothing.
use mathlib.Core.Path.{◌≡◌, refl, sym, ap, ◌∙◌, subst}
use mathlib.Core.Bool.{Bool, true, false, ◌||◌, cond}
use mathlib.Core.List.{List, [], ◌∷◌, ◌++◌, append_assoc, append-nil}
use mathlib.Core.Logic.{◌↔◌}
use mathlib.Core.Option.{Option, some}
use Prim.Native.Nat.{ℕ, suc, ◌+◌, ◌≤◌, ◌<◌}
use native.Mathlib.Omega.{arith}
use lib.Dec.{T, ltb, lt→ltb}
use lib.ListN.{length, length-append}
use Rattle.model.specs.Strings.{Trits, subsumes, all_zero}
use Rattle.model.specs.Growth.{◌>>=◌, Entries, limit, fold, subsumed, remove, append, widen, absorbed, grow, grow_all}
use Rattle.model.specs.Growth.{Apart, Irredundant, Stable, Reduced}
use Rattle.model.specs.Tables.{Wide}
use Rattle.model.proofs.Tests.{or_left, or_right, nor, true_of, false_of}
use Rattle.model.proofs.Given.{Given, given_at, given_both, Each, each, fold_keeps}
use Rattle.model.proofs.Growth.{grow_gives, GrownBy, grow_all_by}
use Rattle.model.proofs.Subsuming.{zero_subsumes, widen_up}
use Rattle.model.proofs.Entries.{without, remove_without}
use Rattle.model.proofs.Stability.{PartOf, widen_length, widen_twice, stable_part, stable_alone, part_without, stable_without}
use Rattle.model.proofs.Stability.{stable_snoc}

-- ---- Length of the entries

pub wide_append : (l : ℕ) (τ ρ : Entries) → Wide l τ → Wide l ρ → Wide l (τ ++ ρ)
unfolding Wide
wide_append l [] ρ w v = v
wide_append l (s ∷ τ) ρ w v = (w.0, wide_append l τ ρ w.1 v)

pub wide_remove : (l : ℕ) (y : Trits) (τ : Entries) → Wide l τ → Wide l (remove y τ)
unfolding remove Wide
wide_remove l y [] w = w
wide_remove l y (s ∷ τ) w = go (subsumes y s) (wide_remove l y τ w.1)
  where
    go : (b : Bool) → Wide l (remove y τ) → Wide l (cond b (remove y τ) (s ∷ remove y τ))
    go true v = v
    go false v = (w.0, v)

-- ---- Grown lists

-- some entries left out
module _ (p : Trits → Bool) where
  apart_without : (s : Trits) (τ : Entries) → Apart s τ → Apart s (without p τ)
  unfolding without Apart
  apart_without s [] a = tt
  apart_without s (r ∷ τ) a = go (p r) (apart_without s τ a.1)
    where
      go : (b : Bool) → Apart s (without p τ) → Apart s (cond b (without p τ) (r ∷ without p τ))
      go true h = h
      go false h = (a.0, h)

  irredundant_without : (τ : Entries) → Irredundant τ → Irredundant (without p τ)
  unfolding without Irredundant
  irredundant_without [] h = tt
  irredundant_without (s ∷ τ) h = go (p s) (irredundant_without τ h.2)
    where
      go : (b : Bool) → Irredundant (without p τ) → Irredundant (cond b (without p τ) (s ∷ without p τ))
      go true k = k
      go false k = (h.0, apart_without s τ h.1, k)

  -- A grown list with some entries left out is one.
  pub reduced_without : (τ : Entries) → Reduced τ → Reduced (without p τ)
  reduced_without τ h = record {
    irredundant = irredundant_without τ h.irredundant;
    stable = stable_without p [] [] τ (λ r k. k) h.stable;
  }

-- y is apart from what it leaves of a list that does not subsume it
apart_after : (y : Trits) (τ : Entries) → ¬ (T (subsumed τ y)) → Apart y (remove y τ)
unfolding remove subsumed Apart
apart_after y [] n = tt
apart_after y (s ∷ τ) n = go (subsumes y s) refl (apart_after y τ (λ k. n (or_right (subsumes s y) (subsumed τ y) k)))
  where
    go : (b : Bool) → subsumes y s ≡ b → Apart y (remove y τ) → Apart y (cond b (remove y τ) (s ∷ remove y τ))
    go true e h = h
    go false e h = ((λ k. rw e at k, λ k. n (or_left (subsumes s y) (subsumed τ y) k)), h)

-- A string apart from two lists is apart from both together.
pub apart_append : (s : Trits) (τ ρ : Entries) → Apart s τ → Apart s ρ → Apart s (τ ++ ρ)
unfolding Apart
apart_append s [] ρ a b = b
apart_append s (r ∷ τ) ρ a b = (a.0, apart_append s τ ρ a.1 b)

irredundant_snoc : (τ : Entries) (y : Trits) → Irredundant τ → ¬ (T (all_zero y)) → Apart y τ → Irredundant (τ ++ (y ∷ []))
unfolding Irredundant Apart
irredundant_snoc [] y h z a = (z, tt, tt)
irredundant_snoc (s ∷ τ) y h z a =
    (h.0, apart_append s τ (y ∷ []) h.1 ((a.0.1, a.0.0), tt), irredundant_snoc τ y h.2 z a.1)

-- A string that is not all zero is not all zero once it is widened.
pub widen_nonzero : (τ : Entries) (y : Trits) → ¬ (T (all_zero y)) → ¬ (T (all_zero (widen τ y)))
widen_nonzero τ y n z = n (subst (λ (s : Trits). T (all_zero s)) (zero_subsumes (widen τ y) y z (widen_up τ y)) z)

-- the widened y appended to what it leaves of a grown list
reduced_grown : (τ : Entries) (y : Trits) → Reduced τ → ¬ (T (absorbed τ y))
    → Reduced (remove (widen τ y) τ ++ (widen τ y ∷ []))
unfolding absorbed
reduced_grown τ y h n =
    let z = widen τ y in
    let is = remove_without z τ in
    let kept = subst Reduced (sym is) (reduced_without (subsumes z) τ h) in
    let part = subst (λ (r : Entries). PartOf r τ) (sym is) (part_without (subsumes z) τ) in
    record {
      irredundant = irredundant_snoc (remove z τ) z kept.irredundant
          (widen_nonzero τ y (λ o. n (or_left (all_zero y) (subsumed τ z) o)))
          (apart_after z τ (λ k. n (or_right (all_zero y) (subsumed τ z) k)));
      stable = stable_snoc [] (remove z τ) z kept.stable (stable_part (remove z τ) τ z part (widen_twice τ y));
    }

-- The empty list is a grown list.
pub reduced_empty : Reduced []
unfolding Irredundant Stable
reduced_empty = record { irredundant = tt; stable = tt }

-- So is a list of one entry that is not all zero.
pub reduced_one : (y : Trits) → ¬ (T (all_zero y)) → Reduced (y ∷ [])
unfolding Irredundant Stable Apart
reduced_one y n = record { irredundant = (n, tt, tt); stable = (stable_alone y, tt) }

-- ---- What growing keeps

-- The entries have l positions, there are at most 256, and under R it is a grown list.
pub record Shape (R : Type 0) (l : ℕ) (τ : Entries) : Type 0 where
  pub wide : Wide l τ
  pub few : length τ ≤ limit
  pub reduced : R → Reduced τ

pub empty_shape : {R : Type 0} (l : ℕ) → Shape R l []
unfolding Wide
empty_shape l = record { wide = tt; few = omega arith; reduced = λ r. reduced_empty }

pub snoc_length : (τ : Entries) (y : Trits) → length (τ ++ (y ∷ [])) ≡ suc (length τ)
snoc_length τ y = length-append τ (y ∷ []) ∙ omega arith

pub grow_reduced : (τ : Entries) (y : Trits) → Reduced τ → Given Reduced (grow τ y)
grow_reduced τ y h = grow_gives τ y (λ s. h) (λ n room. reduced_grown τ y h n)

pub grow_shape : {R : Type 0} (l : ℕ) (τ : Entries) (y : Trits) → Shape R l τ → length y ≡ l → Given (Shape R l) (grow τ y)
unfolding Wide
grow_shape l τ y sh e =
    grow_gives τ y (λ h. sh)
    (λ n room. record {
      wide =
          wide_append l (remove (widen τ y) τ) (widen τ y ∷ []) (wide_remove l (widen τ y) τ sh.wide)
          (widen_length τ y ∙ e, tt);
      few = omega (arith, snoc_length (remove (widen τ y) τ) (widen τ y));
      reduced = λ r. reduced_grown τ y (sh.reduced r) n;
    })

each_wide : (l : ℕ) (τ : Entries) → Wide l τ → Each (λ (s : Trits). length s ≡ l) τ
unfolding Each Wide
each_wide l [] w = tt
each_wide l (s ∷ τ) w = (w.0, each_wide l τ w.1)

-- Growing keeps the shape and adds what the strings cover.
pub grow_all_made : {R : Type 0} (l : ℕ) (τ : Entries) (ys : List Trits) → Shape R l τ → Wide l ys
    → Given (λ (ρ : Entries). Shape R l ρ × GrownBy τ ys ρ) (grow_all τ ys)
grow_all_made l τ ys sh w =
    given_both (unfold grow_all in fold_keeps grow (λ ρ y. grow_shape l ρ y) τ ys sh (each_wide l ys w)) (grow_all_by τ ys)

-- ---- A grown list is one that growing from empty by its own entries gives back

apart_head : (s y : Trits) (τ ys : Entries) → Apart s (τ ++ (y ∷ ys)) → ¬ (T (subsumes s y)) × ¬ (T (subsumes y s))
unfolding Apart
apart_head s y [] ys h = h.0
apart_head s y (r ∷ τ) ys h = apart_head s y τ ys h.1

-- the next entry is not all zero and is apart from those before it
next_clear : (τ : Entries) (y : Trits) (ys : Entries) → Irredundant (τ ++ (y ∷ ys)) → ¬ (T (all_zero y)) × Apart y τ
unfolding Irredundant Apart
next_clear [] y ys h = (h.0, tt)
next_clear (s ∷ τ) y ys h =
    let c = next_clear τ y ys h.2 in
    let a = apart_head s y τ ys h.1 in
    (c.0, ((a.1, a.0), c.1))

not_subsumed : (τ : Entries) (y : Trits) → Apart y τ → ¬ (T (subsumed τ y))
unfolding subsumed Apart
not_subsumed [] y a = λ h. h
not_subsumed (s ∷ τ) y a = nor (subsumes s y) (subsumed τ y) a.0.1 (not_subsumed τ y a.1)

nothing_removed : (τ : Entries) (y : Trits) → Apart y τ → remove y τ ≡ τ
unfolding remove Apart
nothing_removed [] y a = refl
nothing_removed (s ∷ τ) y a = rw (false_of (subsumes y s) a.0.0) (ap (λ (r : Entries). s ∷ r) (nothing_removed τ y a.1))

-- Growing by a stable string that is apart from every entry appends it.
pub grow_apart : (τ : Entries) (y : Trits) → ¬ (T (all_zero y)) → Apart y τ → widen τ y ≡ y → grow τ y ≡ append τ y
unfolding grow absorbed
grow_apart τ y z a e =
    rw (
      e,
      false_of (all_zero y || subsumed τ y) (nor (all_zero y) (subsumed τ y) z (not_subsumed τ y a)),
      nothing_removed τ y a,
    )

grow_clear : (τ : Entries) (y : Trits) → ¬ (T (all_zero y)) → Apart y τ → widen τ y ≡ y → length τ < limit
    → grow τ y ≡ some (τ ++ (y ∷ []))
unfolding append
grow_clear τ y z a e room = rw (grow_apart τ y z a e, true_of (ltb (length τ) limit) (lt→ltb (length τ) limit room))

regrow_from : (τ ys : Entries) → Irredundant (τ ++ ys) → Stable τ ys → length (τ ++ ys) ≤ limit
    → fold grow τ ys ≡ some (τ ++ ys)
unfolding fold ◌>>=◌ Stable
regrow_from τ [] h s few = ap {B = Option Entries} some (sym (append-nil τ))
regrow_from τ (y ∷ ys) h s few =
    let c = next_clear τ y ys h in
    let n : length (τ ++ (y ∷ ys)) ≡ length τ + suc (length ys) = length-append τ (y ∷ ys) in
    let a : (τ ++ (y ∷ [])) ++ ys ≡ τ ++ (y ∷ ys) = append_assoc τ (y ∷ []) ys in
    rw (grow_clear τ y c.0 c.1 s.0 (omega arith))
    (regrow_from (τ ++ (y ∷ [])) ys (rw a h) s.1 (rw a few) ∙ ap {B = Option Entries} some a)

-- Growing a grown list again, entry by entry from empty, gives it back.
pub regrown : (τ : Entries) → Reduced τ → length τ ≤ limit → grow_all [] τ ≡ some τ
unfolding grow_all
regrown τ h few = regrow_from [] τ h.irredundant h.stable few

-- What is grown from empty is a grown list.
pub grown_reduced : (ys : List Trits) (ρ : Entries) → grow_all [] ys ≡ some ρ → Reduced ρ
unfolding grow_all
grown_reduced ys ρ e =
    given_at (fold_keeps grow (λ τ y h u. grow_reduced τ y h) [] ys reduced_empty (each (λ y. tt {0}) ys)) ρ e

-- A list of at most 256 entries is a grown list exactly if growing it from empty gives it back.
pub regrown_exact : (τ : Entries) → length τ ≤ limit → Reduced τ ↔ (grow_all [] τ ≡ some τ)
regrown_exact τ few = (λ h. regrown τ h few, grown_reduced τ τ)
