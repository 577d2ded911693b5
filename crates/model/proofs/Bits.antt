-- "Or" on strings of 0 and 1, and the closure under it. Assumes nothing.
use mathlib.Core.Path.{◌≡◌, refl, sym, ap, ap₂, ◌∙◌, subst}
use mathlib.Core.Bool.{Bool, true, false, ◌||◌, ◌&&◌, or_assoc, or_comm, or-false, or-true, or_self as Bool-or-self}
use mathlib.Core.List.{[], ◌∷◌}
use mathlib.Core.Logic.{◌⊎◌, inl, inr}
use Prim.Native.Nat.{ℕ, zero, suc}
use native.Mathlib.Nat.{suc_inj, suc-ne-zero}
use lib.Dec.{T}
use lib.ListN.{length}
use Rattle.model.specs.Groups.{Bits, Groups, nonzero, meets, or, Ors, one, more}
use Rattle.model.proofs.Tests.{or_right}

pub or_nil : (g : Bits) → or g [] ≡ g
unfolding or
or_nil [] = refl
or_nil (a ∷ g) = refl

pub bits_or_comm : (g h : Bits) → or g h ≡ or h g
unfolding or
bits_or_comm [] [] = refl
bits_or_comm [] (b ∷ h) = refl
bits_or_comm (a ∷ g) [] = refl
bits_or_comm (a ∷ g) (b ∷ h) = ap₂ {C = Bits} (λ x r. x ∷ r) (or_comm a b) (bits_or_comm g h)

pub bits_or_assoc : (g h k : Bits) → or (or g h) k ≡ or g (or h k)
unfolding or
bits_or_assoc [] h k = refl
bits_or_assoc (a ∷ g) [] k = refl
bits_or_assoc (a ∷ g) (b ∷ h) [] = refl
bits_or_assoc (a ∷ g) (b ∷ h) (c ∷ k) = ap₂ {C = Bits} (λ x r. x ∷ r) (or_assoc a b c) (bits_or_assoc g h k)

pub or_self : (g : Bits) → or g g ≡ g
unfolding or
or_self [] = refl
or_self (a ∷ g) = ap₂ {C = Bits} (λ x r. x ∷ r) (Bool-or-self a) (or_self g)

pub nonzero_or : (g h : Bits) → T (nonzero g) → T (nonzero (or g h))
unfolding or nonzero
nonzero_or [] h t = absurd t
nonzero_or (a ∷ g) [] t = t
nonzero_or (true ∷ g) (b ∷ h) t = tt
nonzero_or (false ∷ g) (b ∷ h) t = or_right b (nonzero (or g h)) (nonzero_or g h t)

pub or_length : (g h : Bits) (l : ℕ) → length g ≡ l → length h ≡ l → length (or g h) ≡ l
unfolding or
or_length [] h l d e = e
or_length (a ∷ g) [] l d e = d
or_length (a ∷ g) (b ∷ h) zero d e = absurd (suc-ne-zero _ d)
or_length (a ∷ g) (b ∷ h) (suc l) d e = ap suc (or_length g h l (suc_inj d) (suc_inj e))

-- a string of zeros adds nothing to one as long
pub zero_or : (g h : Bits) → length g ≡ length h → ¬ (T (nonzero g)) → or g h ≡ h
unfolding or nonzero
zero_or [] h e z = refl
zero_or (a ∷ g) [] e z = absurd (suc-ne-zero _ e)
zero_or (true ∷ g) (b ∷ h) e z = absurd (z tt)
zero_or (false ∷ g) (b ∷ h) e z = ap (λ (r : Bits). b ∷ r) (zero_or g h (suc_inj e) z)

-- ---- Groups that meet a set

pub meets_nonzero : (m g : Bits) → T (meets m g) → T (nonzero g)
unfolding meets nonzero
meets_nonzero [] g h = absurd h
meets_nonzero (a ∷ m) [] h = absurd h
meets_nonzero (a ∷ m) (true ∷ g) h = tt
meets_nonzero (true ∷ m) (false ∷ g) h = meets_nonzero m g h
meets_nonzero (false ∷ m) (false ∷ g) h = meets_nonzero m g h

pub meets_or : (m n g : Bits) → meets (or m n) g ≡ (meets m g || meets n g)
unfolding meets or
meets_or [] n g = refl
meets_or (a ∷ m) [] g = sym (or-false (meets (a ∷ m) g))
meets_or (a ∷ m) (b ∷ n) [] = refl
meets_or (a ∷ m) (b ∷ n) (c ∷ g) = rw (meets_or m n g) (lift a b c (meets m g) (meets n g))
  where
    lift : (a b c x y : Bool) → ((a || b) && c || (x || y)) ≡ (a && c || x || (b && c || y))
    lift true b true x y = refl
    lift true true false x y = refl
    lift true false false x y = refl
    lift false true true x y = sym (or-true x)
    lift false true false x y = refl
    lift false false c x y = refl

-- ---- Every "or" of one or more strings

module _ {P Q : Groups} where
  pub ors_map : ((g : Bits) → P g → Q g) → {g : Bits} → Ors P g → Ors Q g
  ors_map f (one {g} p) = one (f g p)
  ors_map f (more {g} p k) = more (f g p) (ors_map f k)

module _ {P : Groups} where
  pub ors_join : {g h : Bits} → Ors P g → Ors P h → Ors P (or g h)
  ors_join (one p) k = more p k
  ors_join {h = h} (more {g} {h = g'} p j) k = subst (Ors P) (sym (bits_or_assoc g g' h)) (more p (ors_join j k))

-- strings of P and, at the last, one of Q, which is closed under "or"
pub data Split (P Q : Groups) : Bits → Type 0 where
  old : {g : Bits} → Ors P g → Split P Q g
  new : {g : Bits} → Q g → Split P Q g
  mixed : {g h : Bits} → Ors P g → Q h → Split P Q (or g h)

module _ (P Q : Groups) (closed : (g h : Bits) → Q g → Q h → Q (or g h)) where
  with_old : {g h : Bits} → P g → Split P Q h → Split P Q (or g h)
  with_old p (old k) = old (more p k)
  with_old p (new q) = mixed (one p) q
  with_old {g} p (mixed {g = i} {h = j} k q) = subst (Split P Q) (bits_or_assoc g i j) (mixed (more p k) q)

  swap : (g i j : Bits) → or i (or g j) ≡ or g (or i j)
  swap g i j = sym (bits_or_assoc i g j) ∙ ap (λ (r : Bits). or r j) (bits_or_comm i g) ∙ bits_or_assoc g i j

  with_new : {g h : Bits} → Q g → Split P Q h → Split P Q (or g h)
  with_new {g} {h} q (old k) = subst (Split P Q) (bits_or_comm h g) (mixed k q)
  with_new {g} {h} q (new q') = new (closed g h q q')
  with_new {g} q (mixed {g = i} {h = j} k q') = subst (Split P Q) (swap g i j) (mixed k (closed g j q q'))

  with_either : {g h : Bits} → P g ⊎ Q g → Split P Q h → Split P Q (or g h)
  with_either (inl p) s = with_old p s
  with_either (inr q) s = with_new q s

  either : {g : Bits} → P g ⊎ Q g → Split P Q g
  either (inl p) = old (one p)
  either (inr q) = new q

  pub split : {g : Bits} → Ors (λ h. P h ⊎ Q h) g → Split P Q g
  split (one e) = either e
  split (more e k) = with_either e (split k)

  pub unsplit : {g : Bits} → Split P Q g → Ors (λ h. P h ⊎ Q h) g
  unsplit (old k) = ors_map (λ g p. inl p) k
  unsplit (new q) = one (inr q)
  unsplit (mixed k q) = ors_join (ors_map (λ g p. inl p) k) (one (inr q))
