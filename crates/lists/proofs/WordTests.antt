-- Tests of a list's words are tests of its strings; what is left of a list packed by such a test. Assumes nothing.
use mathlib.Core.Path.{◌≡◌, refl, sym, ap₂, ◌∙◌}
use mathlib.Core.Bool.{Bool, true, false, not, ◌||◌}
use mathlib.Core.List.{List, [], ◌∷◌}
use Prim.Native.Nat.{ℕ, suc, ◌+◌, ◌-◌, ◌≤◌, ◌<◌}
use native.Mathlib.Nat.{zero-add, add-zero}
use native.Mathlib.Omega.{arith}
use borrow.Author.Tests.{not-true, ltb-true, ltb-false}
use lib.Dec.{ltb}
use lib.ListN.{length, get_or}
use Rattle.model.specs.Strings.{Trits, subsumes}
use Rattle.model.specs.Growth.{Entries, subsumed, remove}
use Rattle.words.specs.Words.{word, subsumes_word}
use Rattle.tables.specs.Lists.{any, some_from}
use Rattle.tables.specs.Values.{all_from}
use Rattle.tables.proofs.Arrays.{subsumed_any}
use Rattle.tables.proofs.Checking.{all_at}
use Rattle.lists.specs.WorkingLists.{Holds, WordsOf, Free}
use Rattle.words.proofs.Words.{word_subsumes}
use Rattle.lists.proofs.Holding.{holds_length}
use Rattle.lists.proofs.Slices.{words_length}
use Rattle.lists.proofs.RowLoops.{along_end, cond_not, PackedSoFar}

-- ---- Tests

-- A test of the indexes that is a test of the strings there.
pub some_any : (p : ℕ → Bool) (q : Trits → Bool) (τ : Entries) (i : ℕ) → ((m : ℕ) → m < length τ → p (i + m) ≡ q (get_or τ m []))
    → some_from i (length τ) p ≡ any q τ
unfolding some_from any
some_any p q [] i f = refl
some_any p q (s ∷ τ) i f =
    ap₂ ◌||◌
    (let h : p (i + 0) ≡ q s = f 0 (omega arith) in rw (add-zero i) at h)
    (some_any p q τ (suc i) (λ m lt. let z : suc i + m ≡ i + suc m = omega arith in rw z (f (suc m) (omega arith))))

module _ {l : ℕ} {list : List ℕ} {n : ℕ} {τ : Entries} (h : Holds l list n τ) (s : Trits) (e : length s ≡ l)
    {y : ℕ} (is : y ≡ word s) where
  -- the string of y and the one at an index
  pub holds_under : (i : ℕ) → i < n → subsumes_word y (get_or list i 0) ≡ subsumes s (get_or τ i [])
  holds_under i lt =
      rw (is, h.here i lt) (word_subsumes s (get_or τ i []) (e ∙ sym (holds_length h i lt)) (rw e h.short))

  -- the one at an index and the string of y
  pub holds_over : (i : ℕ) → i < n → subsumes_word (get_or list i 0) y ≡ subsumes (get_or τ i []) s
  holds_over i lt =
      let long = holds_length h i lt in
      rw (is, h.here i lt) (word_subsumes (get_or τ i []) s (long ∙ sym e) (rw long h.short))

  -- some word subsumes y where some entry subsumes the string
  pub holds_subsumed : some_from 0 n (λ i. subsumes_word (get_or list i 0) y) ≡ subsumed τ s
  holds_subsumed =
      rw h.count
      (some_any _ (λ r. subsumes r s) τ 0 (λ m lt. rw (zero-add m) (holds_over m (omega (arith, h.count))))
      ∙ subsumed_any τ s)

-- The same of a slice.
pub words_subsumed : {l : ℕ} {list : List ℕ} {τ : Entries} → WordsOf l list τ → (s : Trits) → length s ≡ l → {y : ℕ} → y ≡ word s
    → some_from 0 (length list) (λ i. subsumes_word (get_or list i 0) y) ≡ subsumed τ s
words_subsumed {l} {list} {τ} w s e {y} is =
    rw w.count
    (some_any _ (λ r. subsumes r s) τ 0 (λ m lt.
    let here : m < length list = omega (arith, w.count) in
    let long = words_length w m here in
    rw (zero-add m, is, w.here m here) (word_subsumes (get_or τ m []) s (long ∙ sym e) (rw long w.short)))
    ∙ subsumed_any τ s)

-- y subsumes none of the entries before k + n where it subsumes none before k and none of the n from there on
pub free_more : (list : List ℕ) (y k n : ℕ) → Free list y k
    → all_from k n (λ i. not (subsumes_word y (get_or list i 0))) ≡ true → Free list y (k + n)
free_more list y k n f a i lt = go (ltb i k) refl
  where
    go : (b : Bool) → ltb i k ≡ b → subsumes_word y (get_or list i 0) ≡ false
    go true e = f i (ltb-true i k e)
    go false e =
        let le = ltb-false i k e in
        let z : k + (i - k) ≡ i = omega arith in
        not-true _ (rw z at (all_at (λ m. not (subsumes_word y (get_or list m 0))) k n a (i - k) (omega arith)))

-- what y does not subsume, moved together
pub packed_remove : {l : ℕ} (y : Trits) {τ : Entries} {list₀ list : List ℕ} {n k i : ℕ} → Holds l list₀ n τ
    → PackedSoFar l (λ r. not (subsumes y r)) τ n list k i → n ≤ i → Holds l list k (remove y τ)
unfolding remove
packed_remove y h w le =
    along_end (λ r. not (subsumes y r)) (λ r. r) (remove y) refl
    (λ r ρ. cond_not (subsumes y r) (remove y ρ) (r ∷ remove y ρ)) h w.front le
