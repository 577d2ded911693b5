-- Lists that stand for a set of groups, and what cross and close give. Assumes nothing.
use mathlib.Core.Path.{◌≡◌, sym, ◌∙◌, subst}
use mathlib.Core.Bool.{false, ◌||◌, or-false}
use mathlib.Core.List.{List, [], ◌∷◌, ◌++◌}
use mathlib.Core.Logic.Iff
use mathlib.Core.Logic.{◌↔◌, ◌⊎◌, inl, inr, ⊎_elim}
use Prim.Native.Nat.{ℕ}
use lib.Dec.{T}
use lib.ListN.{length}
use Rattle.model.specs.Groups.{Bits, Groups, nonzero, or, AOrB, Ors, one, more}
use Rattle.model.specs.Strings.{Trits, covers}
use Rattle.model.specs.Growth.{Entries, fold, covered, grow_all}
use Rattle.model.specs.Tables.{Wide, ors, cross, close_with, close}
use Rattle.model.proofs.Tests.{decide, or_cases, or_left, or_right}
use Rattle.model.proofs.Bits.{nonzero_or, zero_or, bits_or_comm, ors_map, Split, old}
use Rattle.model.proofs.Bits.{new, mixed, split, unsplit}
use Rattle.model.proofs.Strings.{cover_closed}
use Rattle.model.proofs.Given.{Given, given, given_map, given_then}
use Rattle.model.proofs.Growth.{covered_append, GrownBy}
use Rattle.model.proofs.Shape.{wide_append, Shape, empty_shape, grow_all_made}
use Rattle.model.proofs.Candidates.{wide_long, ors_wide}
use Rattle.model.proofs.Candidates.{Both, ors_split, ors_covered}

-- The groups that a list covers.
abbrev pub In : Entries → Groups
In τ g = T (nonzero g) × T (covered τ g)

-- A reduced list of strings of l positions, whose groups are exactly those of Q.
pub record Stands (l : ℕ) (Q : Groups) (ρ : Entries) : Type 0 where
  pub shape : Shape Unit l ρ
  pub exact : (g : Bits) → In ρ g ↔ Q g

pub stands_same : {l : ℕ} {Q Q' : Groups} {ρ : Entries} → ((g : Bits) → Q g ↔ Q' g) → Stands l Q ρ → Stands l Q' ρ
stands_same f s = record { shape = s.shape; exact = λ g. Iff.trans (s.exact g) (f g) }

-- what grows from the empty list
pub from_empty : (l : ℕ) (ys : List Trits) → Wide l ys
    → Given (λ (ρ : Entries). Shape Unit l ρ × GrownBy [] ys ρ) (grow_all [] ys)
from_empty l ys w = grow_all_made l [] ys (empty_shape l) w

-- ---- Cross

pub cross_exact : (l : ℕ) (α β : Entries) → Wide l α → Wide l β → Given (Stands l (λ g. T (nonzero g) × Both α β g)) (cross α β)
unfolding cross covered
cross_exact l α β w v =
    given_map
    (λ ρ made. record {
      shape = made.0;
      exact = λ g. (
        λ i. (i.0, ors_split α β g (made.1.within g i.1)),
        λ h. (
          h.0,
          rw (made.1.exact g h.0, h.1.is)
              (ors_covered α β h.1.first h.1.second h.1.in_first h.1.in_second),
        ),
      );
    })
    (from_empty l (ors α β) (ors_wide l α β w v))

-- an a-or-b, where α covers every a and β every b
pub pair_crossed : {A B : Groups} (α β : Entries) → ((a : Bits) → A a → In α a) → ((b : Bits) → B b → In β b) → (g : Bits)
    → AOrB A B g
    → T (nonzero g) × Both α β g
pair_crossed α β f k g p = (
  rw p.is (nonzero_or p.a p.b (f p.a p.in_a).0),
  record {
    first = p.a;
    second = p.b;
    in_first = (f p.a p.in_a).1;
    in_second = (k p.b p.in_b).1;
    is = p.is;
  },
)

-- ---- Close

abbrev Cover : Trits → Groups
Cover c g = T (nonzero g) × T (covers c g)

module _ (l : ℕ) (R : Entries) (c : Trits) (shape : Shape Unit l R) (len : length c ≡ l) (P : Groups)
    (exact : (g : Bits) → In R g ↔ Ors P g) where
  abbrev crossed : List Trits
  crossed = ors R (c ∷ [])

  one_wide : Wide l (c ∷ [])
  unfolding Wide
  one_wide = (len, tt)

  in_one : (g : Bits) → T (covered (c ∷ []) g) → T (covers c g)
  unfolding covered
  in_one g h = rw or-false at h

  one_in : (g : Bits) → T (covers c g) → T (covered (c ∷ []) g)
  unfolding covered
  one_in g h = or_left (covers c g) false h

  -- a part that is all zero leaves the other part
  of_parts : (a b : Bits) → T (covered R a) → T (covered (c ∷ []) b) → T (nonzero (or a b)) → Dec (T (nonzero a))
      → Dec (T (nonzero b)) → Split P (Cover c) (or a b)
  of_parts a b m n s (yes i) (yes j) = mixed ((exact a).0 (i, m)) (j, in_one b n)
  of_parts a b m n s (no i) d =
      let e : or a b ≡ b = zero_or a b (wide_long l R a shape.wide m ∙ sym (wide_long l (c ∷ []) b one_wide n)) i in
      rw e (new (rw e at s, in_one b n))
  of_parts a b m n s (yes i) (no j) =
      let e : or a b ≡ a = bits_or_comm a b ∙ zero_or b a
      (wide_long l (c ∷ []) b one_wide n ∙ sym (wide_long l R a shape.wide m)) j in
      rw e (old ((exact a).0 (i, m)))

  of_both : (g : Bits) → T (nonzero g) → Both R (c ∷ []) g → Split P (Cover c) g
  of_both g s p =
      subst (Split P (Cover c)) (sym p.is)
      (of_parts p.first p.second p.in_first p.in_second (rw p.is at s) (decide (nonzero p.first))
      (decide (nonzero p.second)))

  close_with_exact : Given (Stands l (Ors (λ h. P h ⊎ Cover c h))) (close_with R c)
  unfolding close_with
  close_with_exact =
      given_map
      (λ ρ made. record {
        shape = made.0;
        exact =
            λ g. (λ h. unsplit P (Cover c) closed (there ρ made.1 g h), λ k. back ρ made.1 (split P (Cover c) closed k));
      })
      (grow_all_made l R (crossed ++ (c ∷ [])) shape
      (wide_append l crossed (c ∷ []) (ors_wide l R (c ∷ []) shape.wide one_wide) one_wide))
    where
      closed : (g h : Bits) → Cover c g → Cover c h → Cover c (or g h)
      closed g h p q = (nonzero_or g h p.0, cover_closed c g h p.1 q.1)

      candidates : (g : Bits) → covered (crossed ++ (c ∷ [])) g ≡ (covered crossed g || covered (c ∷ []) g)
      candidates g = covered_append crossed (c ∷ []) g

      there : (ρ : Entries) → GrownBy R (crossed ++ (c ∷ [])) ρ → (g : Bits) → In ρ g → Split P (Cover c) g
      there ρ grown g h =
          ⊎_elim
          (λ k. old ((exact g).0 (h.0, k)))
          (λ k.
          ⊎_elim
          (λ j. of_both g h.0 (ors_split R (c ∷ []) g j))
          (λ j. new (h.0, in_one g j))
          (or_cases (covered crossed g) (covered (c ∷ []) g) (rw candidates at k)))
          (or_cases (covered R g) (covered (crossed ++ (c ∷ [])) g) (grown.within g h.1))

      in_grown : (ρ : Entries) → GrownBy R (crossed ++ (c ∷ [])) ρ → (g : Bits) → T (nonzero g)
          → T (covered R g || (covered crossed g || covered (c ∷ []) g)) → In ρ g
      in_grown ρ grown g n h = (n, rw (grown.exact g n, candidates g) h)

      back : (ρ : Entries) → GrownBy R (crossed ++ (c ∷ [])) ρ → {g : Bits} → Split P (Cover c) g → In ρ g
      back ρ grown (old {g} k) =
          let m = (exact g).1 k in
          in_grown ρ grown g m.0 (or_left (covered R g) (covered crossed g || covered (c ∷ []) g) m.1)
      back ρ grown (new {g} q) =
          in_grown ρ grown g q.0
          (or_right (covered R g) (covered crossed g || covered (c ∷ []) g)
          (or_right (covered crossed g) (covered (c ∷ []) g) (one_in g q.1)))
      back ρ grown (mixed {g} {h} k q) =
          let m = (exact g).1 k in
          in_grown ρ grown (or g h) (nonzero_or g h m.0)
          (or_right (covered R (or g h)) (covered crossed (or g h) || covered (c ∷ []) (or g h))
          (or_left (covered crossed (or g h)) (covered (c ∷ []) (or g h))
          (ors_covered R (c ∷ []) g h m.1 (one_in h q.1))))

close_from_exact : (l : ℕ) (cs R : Entries) (P : Groups) → Stands l (Ors P) R → Wide l cs
    → Given (Stands l (Ors (λ h. P h ⊎ In cs h))) (fold close_with R cs)
unfolding fold covered Wide
close_from_exact l [] R P s w = given (stands_same (λ g. (ors_map (λ h p. inl p), ors_map left)) s)
  where
    left : (h : Bits) → P h ⊎ In [] h → P h
    left h (inl p) = p
    left h (inr q) = absurd q.1
close_from_exact l (c ∷ cs) R P s w =
    given_then _ (close_with_exact l R c s.shape w.0 P s.exact)
    (λ ρ s'. given_map (λ υ. stands_same (λ g. (ors_map there, ors_map back)))
    (close_from_exact l cs ρ (λ h. P h ⊎ Cover c h) s' w.1))
  where
    there : (h : Bits) → (P h ⊎ Cover c h) ⊎ In cs h → P h ⊎ In (c ∷ cs) h
    there h (inl (inl p)) = inl p
    there h (inl (inr q)) = inr (q.0, or_left (covers c h) (covered cs h) q.1)
    there h (inr q) = inr (q.0, or_right (covers c h) (covered cs h) q.1)

    back : (h : Bits) → P h ⊎ In (c ∷ cs) h → (P h ⊎ Cover c h) ⊎ In cs h
    back h (inl p) = inl (inl p)
    back h (inr q) = ⊎_elim (λ k. inl (inr (q.0, k))) (λ k. inr (q.0, k)) (or_cases (covers c h) (covered cs h) q.1)

-- Close gives every "or" of one or more groups.
pub close_exact : (l : ℕ) (cs : Entries) → Wide l cs → Given (Stands l (Ors (In cs))) (close cs)
unfolding close covered
close_exact l cs w =
    given_map (λ ρ. stands_same (λ g. (ors_map there, ors_map (λ h q. inr q))))
    (close_from_exact l cs [] (λ h. ⊥) (record { shape = empty_shape l; exact = λ g. (λ h. absurd h.1, empty) }) w)
  where
    empty : {g : Bits} → Ors (λ h. ⊥) g → In [] g
    empty (one p) = absurd p
    empty (more p k) = absurd p

    there : (h : Bits) → ⊥ ⊎ In cs h → In cs h
    there h (inl p) = absurd p
    there h (inr q) = q
