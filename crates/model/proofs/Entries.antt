-- The entries of a list: which entry subsumes, lists of which no entry subsumes another, and lists with some entries left
-- out. Assumes nothing.
use mathlib.Core.Path.{◌≡◌, refl, sym, ap, ◌∙◌, subst}
use mathlib.Core.Bool.{Bool, true, false, ◌||◌, cond, or_assoc}
use mathlib.Core.List.{[], ◌∷◌, ◌++◌}
use mathlib.Core.Logic.{◌⊎◌, inl, inr, ⊎_elim}
use Prim.Native.Nat.{ℕ}
use lib.Dec.{T}
use lib.ListN.{length}
use Rattle.model.specs.Strings.{Trits, matches, subsumes, all_zero}
use Rattle.model.specs.Growth.{Entries, subsumed, remove, Apart}
use Rattle.model.specs.Tables.{Wide, unmatched}
use Rattle.model.specs.Widest.{EntryOf, fresh, Antichain}
use Rattle.model.proofs.Tests.{or_cases, or_left, or_right}
use Rattle.model.proofs.Strings.{covers_length, some_covered, subsumes_covers}
use Rattle.model.proofs.Given.{Each}
use Rattle.model.proofs.Subsuming.{subsumes_trans}

-- A string has the length of one that subsumes it.
pub subsumes_length : (r s : Trits) → T (subsumes r s) → length r ≡ length s
subsumes_length r s h =
    let g = some_covered s in
    sym (covers_length r g.0 (subsumes_covers r s g.0 h g.1)) ∙ covers_length s g.0 g.1

-- ---- Entries

-- What holds of each string of a list holds of an entry.
pub each_entry : (J : Trits → Type 0) (τ : Entries) → Each J τ → (s : Trits) → EntryOf τ s → J s
unfolding Each EntryOf
each_entry J [] j s e = absurd e
each_entry J (r ∷ τ) j s (inl e) = subst J e j.0
each_entry J (r ∷ τ) j s (inr e) = each_entry J τ j.1 s e

-- An entry of a list of strings of l positions has l positions.
pub wide_entry : (l : ℕ) (τ : Entries) → Wide l τ → (s : Trits) → EntryOf τ s → length s ≡ l
unfolding Wide EntryOf
wide_entry l [] w s e = absurd e
wide_entry l (r ∷ τ) w s (inl e) = ap length (sym e) ∙ w.0
wide_entry l (r ∷ τ) w s (inr e) = wide_entry l τ w.1 s e

-- A list has strings of l positions where each entry has l positions.
pub entries_wide : (l : ℕ) (τ : Entries) → ((s : Trits) → EntryOf τ s → length s ≡ l) → Wide l τ
unfolding Wide EntryOf
entries_wide l [] f = tt
entries_wide l (r ∷ τ) f = (f r (inl refl), entries_wide l τ (λ s e. f s (inr e)))

-- An entry of two lists together is an entry of one of them.
pub append_entry : (τ ρ : Entries) (s : Trits) → EntryOf (τ ++ ρ) s → EntryOf τ s ⊎ EntryOf ρ s
unfolding EntryOf
append_entry [] ρ s e = inr e
append_entry (r ∷ τ) ρ s (inl e) = inl (inl e)
append_entry (r ∷ τ) ρ s (inr e) = ⊎_elim (λ k. inl (inr k)) inr (append_entry τ ρ s e)

-- And an entry of one of them is one of both.
pub entry_append : (τ ρ : Entries) (s : Trits) → EntryOf τ s ⊎ EntryOf ρ s → EntryOf (τ ++ ρ) s
unfolding EntryOf
entry_append [] ρ s (inl e) = absurd e
entry_append [] ρ s (inr e) = e
entry_append (r ∷ τ) ρ s (inl (inl e)) = inl e
entry_append (r ∷ τ) ρ s (inl (inr e)) = inr (entry_append τ ρ s (inl e))
entry_append (r ∷ τ) ρ s (inr e) = inr (entry_append τ ρ s (inr e))

-- ---- The entry that subsumes

-- An entry that subsumes s.
pub record Above (τ : Entries) (s : Trits) : Type 0 where
  pub y : Trits
  pub entry : EntryOf τ y
  pub subsuming : T (subsumes y s)

-- Where a list subsumes s, some entry does.
pub above : (τ : Entries) (s : Trits) → T (subsumed τ s) → Above τ s
unfolding subsumed EntryOf
above [] s h = absurd h
above (r ∷ τ) s h =
    ⊎_elim (λ k. record { y = r; entry = inl refl; subsuming = k })
    (λ k. let a = above τ s k in record { y = a.y; entry = inr a.entry; subsuming = a.subsuming })
    (or_cases (subsumes r s) (subsumed τ s) h)

-- Where an entry subsumes s, the list does.
pub entry_subsumes : (τ : Entries) (y s : Trits) → EntryOf τ y → T (subsumes y s) → T (subsumed τ s)
unfolding subsumed EntryOf
entry_subsumes [] y s e h = absurd e
entry_subsumes (r ∷ τ) y s (inl e) h = or_left (subsumes r s) (subsumed τ s) (rw e h)
entry_subsumes (r ∷ τ) y s (inr e) h = or_right (subsumes r s) (subsumed τ s) (entry_subsumes τ y s e h)

-- What is within a subsumed string is subsumed.
pub subsumed_within : (τ : Entries) (r s : Trits) → T (subsumed τ r) → T (subsumes r s) → T (subsumed τ s)
subsumed_within τ r s h k =
    let a = above τ r h in entry_subsumes τ a.y s a.entry (subsumes_trans a.y r s a.subsuming k)

-- Two lists together subsume what either does.
pub subsumed_append : (τ ρ : Entries) (s : Trits) → subsumed (τ ++ ρ) s ≡ (subsumed τ s || subsumed ρ s)
unfolding subsumed
subsumed_append [] ρ s = refl
subsumed_append (r ∷ τ) ρ s =
    ap (λ (b : Bool). subsumes r s || b) (subsumed_append τ ρ s)
    ∙ sym (or_assoc (subsumes r s) (subsumed τ s) (subsumed ρ s))

-- ---- No entry subsumes another

-- Neither string subsumes the other.
abbrev pub Neither : Trits → Trits → Type 0
Neither r s = ¬ (T (subsumes r s)) × ¬ (T (subsumes s r))

-- A string apart from a list is apart from each entry.
pub apart_entry : (s : Trits) (τ : Entries) → Apart s τ → (r : Trits) → EntryOf τ r → Neither s r
unfolding Apart EntryOf
apart_entry s [] a r e = absurd e
apart_entry s (x ∷ τ) a r (inl e) = subst (Neither s) e a.0
apart_entry s (x ∷ τ) a r (inr e) = apart_entry s τ a.1 r e

-- A string apart from each entry is apart from the list.
pub entries_apart : (s : Trits) (τ : Entries) → ((r : Trits) → EntryOf τ r → Neither s r) → Apart s τ
unfolding Apart EntryOf
entries_apart s [] f = tt
entries_apart s (x ∷ τ) f = (f x (inl refl), entries_apart s τ (λ r e. f r (inr e)))

-- Where no entry subsumes another, an entry that subsumes an entry is that entry.
pub antichain_same : (τ : Entries) → Antichain τ → (r s : Trits) → EntryOf τ r → EntryOf τ s → T (subsumes r s) → r ≡ s
unfolding Antichain EntryOf
antichain_same [] a r s d e h = absurd d
antichain_same (x ∷ τ) a r s (inl d) (inl e) h = sym d ∙ e
antichain_same (x ∷ τ) a r s (inl d) (inr e) h = absurd ((apart_entry x τ a.0 s e).0 (rw d h))
antichain_same (x ∷ τ) a r s (inr d) (inl e) h = absurd ((apart_entry x τ a.0 r d).1 (rw e h))
antichain_same (x ∷ τ) a r s (inr d) (inr e) h = antichain_same τ a.1 r s d e h

-- Two lists together, where each string of the second is apart from the first.
pub antichain_append : (τ ρ : Entries) → Antichain τ → Antichain ρ → ((s : Trits) → EntryOf ρ s → Apart s τ)
    → Antichain (τ ++ ρ)
unfolding Antichain EntryOf Apart
antichain_append [] ρ a b f = b
antichain_append (x ∷ τ) ρ a b f = (
  entries_apart x (τ ++ ρ)
      (λ r e. ⊎_elim (apart_entry x τ a.0 r) (λ k. ((f r k).0.1, (f r k).0.0)) (append_entry τ ρ r e)),
  antichain_append τ ρ a.1 b (λ s e. (f s e).1),
)

-- ---- Some entries left out

-- The entries for which p does not hold.
unfoldable pub without : (Trits → Bool) → Entries → Entries
without p [] = []
without p (s ∷ τ) = cond (p s) (without p τ) (s ∷ without p τ)

pub without_entry : (p : Trits → Bool) (τ : Entries) (s : Trits) → EntryOf (without p τ) s → EntryOf τ s × ¬ (T (p s))
unfolding without EntryOf
without_entry p [] s e = absurd e
without_entry p (r ∷ τ) s e = go (p r) refl (without_entry p τ s) e
  where
    go : (b : Bool) → p r ≡ b → (EntryOf (without p τ) s → EntryOf τ s × ¬ (T (p s)))
        → EntryOf (cond b (without p τ) (r ∷ without p τ)) s → ((r ≡ s) ⊎ EntryOf τ s) × ¬ (T (p s))
    go true d f e = (inr (f e).0, (f e).1)
    go false d f (inl e) = (inl e, subst (λ (x : Trits). ¬ (T (p x))) e (λ t. rw d at t))
    go false d f (inr e) = (inr (f e).0, (f e).1)

-- An entry for which p does not hold is not left out.
pub entry_without : (p : Trits → Bool) (τ : Entries) (s : Trits) → EntryOf τ s → ¬ (T (p s)) → EntryOf (without p τ) s
unfolding without EntryOf
entry_without p [] s e n = absurd e
entry_without p (r ∷ τ) s e n = go (p r) refl (λ k. entry_without p τ s k n) e
  where
    go : (b : Bool) → p r ≡ b → (EntryOf τ s → EntryOf (without p τ) s) → (r ≡ s) ⊎ EntryOf τ s
        → EntryOf (cond b (without p τ) (r ∷ without p τ)) s
    go true d f (inl e) = absurd (n (rw (← e, d) tt))
    go true d f (inr e) = f e
    go false d f (inl e) = inl e
    go false d f (inr e) = inr (f e)

antichain_without : (p : Trits → Bool) (τ : Entries) → Antichain τ → Antichain (without p τ)
unfolding without Antichain
antichain_without p [] a = tt
antichain_without p (s ∷ τ) a = go (p s) (antichain_without p τ a.1)
  where
    go : (b : Bool) → Antichain (without p τ) → Antichain (cond b (without p τ) (s ∷ without p τ))
    go true h = h
    go false h = (entries_apart s (without p τ) (λ r e. apart_entry s τ a.0 r (without_entry p τ r e).0), h)

-- What y leaves of a list.
pub remove_without : (y : Trits) (τ : Entries) → remove y τ ≡ without (subsumes y) τ
unfolding remove without
remove_without y [] = refl
remove_without y (s ∷ τ) = ap (λ (r : Entries). cond (subsumes y s) r (s ∷ r)) (remove_without y τ)

-- What y leaves of two lists together.
pub remove_append : (y : Trits) (τ ρ : Entries) → remove y (τ ++ ρ) ≡ remove y τ ++ remove y ρ
unfolding remove
remove_append y [] ρ = refl
remove_append y (s ∷ τ) ρ = go (subsumes y s) (remove_append y τ ρ)
  where
    go : (b : Bool) → remove y (τ ++ ρ) ≡ remove y τ ++ remove y ρ
        → cond b (remove y (τ ++ ρ)) (s ∷ remove y (τ ++ ρ)) ≡ cond b (remove y τ) (s ∷ remove y τ) ++ remove y ρ
    go true e = e
    go false e = ap (λ (r : Entries). s ∷ r) e

-- What v leaves of a list.
pub unmatched_without : (v : Trits) (τ : Entries) → unmatched v τ ≡ without (λ y. matches y v) τ
unfolding unmatched without
unmatched_without v [] = refl
unmatched_without v (y ∷ τ) = ap (λ (r : Entries). cond (matches y v) r (y ∷ r)) (unmatched_without v τ)

-- An entry that stays is an entry that does not match v.
pub unmatched_entry : (v : Trits) (τ : Entries) (s : Trits) → EntryOf (unmatched v τ) s → EntryOf τ s × ¬ (T (matches s v))
unmatched_entry v τ s e = without_entry (λ y. matches y v) τ s (rw unmatched_without at e)

-- An entry that does not match v stays.
pub entry_unmatched : (v : Trits) (τ : Entries) (s : Trits) → EntryOf τ s → ¬ (T (matches s v)) → EntryOf (unmatched v τ) s
entry_unmatched v τ s e n = rw unmatched_without (entry_without (λ y. matches y v) τ s e n)

-- Leaving out what matches v keeps the entries apart.
pub antichain_unmatched : (v : Trits) (τ : Entries) → Antichain τ → Antichain (unmatched v τ)
antichain_unmatched v τ a = rw unmatched_without (antichain_without (λ y. matches y v) τ a)

fresh_without : (κ τ : Entries) → fresh κ τ ≡ without (λ z. all_zero z || subsumed κ z) τ
unfolding fresh without
fresh_without κ [] = refl
fresh_without κ (z ∷ τ) = ap (λ (r : Entries). cond (all_zero z || subsumed κ z) r (z ∷ r)) (fresh_without κ τ)

-- A fresh string is one of the strings, not all zero, and no entry of κ subsumes it.
pub fresh_entry : (κ τ : Entries) (s : Trits) → EntryOf (fresh κ τ) s → EntryOf τ s × ¬ (T (all_zero s || subsumed κ s))
fresh_entry κ τ s e = without_entry (λ z. all_zero z || subsumed κ z) τ s (rw fresh_without at e)

-- One of the strings that is not all zero and that no entry of κ subsumes is fresh.
pub entry_fresh : (κ τ : Entries) (s : Trits) → EntryOf τ s → ¬ (T (all_zero s || subsumed κ s)) → EntryOf (fresh κ τ) s
entry_fresh κ τ s e n = rw fresh_without (entry_without (λ z. all_zero z || subsumed κ z) τ s e n)

-- Leaving out what is not fresh keeps the strings apart.
pub antichain_fresh : (κ τ : Entries) → Antichain τ → Antichain (fresh κ τ)
antichain_fresh κ τ a = rw fresh_without (antichain_without (λ z. all_zero z || subsumed κ z) τ a)
