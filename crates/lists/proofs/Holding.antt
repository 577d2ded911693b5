-- A list that an array holds: what stands at an index, one string more, and what a call makes by its answer. Assumes nothing.
use mathlib.Core.Path.{◌≡◌, refl, sym, ap, ◌∙◌}
use mathlib.Core.Bool.{Bool, true, false}
use mathlib.Core.List.{List, [], ◌∷◌, ◌++◌}
use mathlib.Core.Option.{Option, some, none}
use Prim.Native.Nat.{ℕ, ◌+◌, ◌≤◌, ◌<◌}
use native.Mathlib.Nat.{not-suc-le-zero}
use native.Mathlib.Omega.{arith}
use borrow.Author.Tests.{eqb-true, eqb-false}
use lib.Dec.{eqb}
use lib.ListN.{length, get_or, set, take, length-append, length-set, get_or-append}
use lib.Seq.{get_or_at, get_or-set_same, get_or-set_other}
use Rattle.std.proofs.lemmas.List.{get_or-take}
use Rattle.model.specs.Strings.{Trits}
use Rattle.model.specs.Growth.{Entries, limit}
use Rattle.model.specs.Tables.{Wide}
use Rattle.model.proofs.Shape.{wide_append}
use Rattle.words.specs.Words.{word}
use Rattle.tables.proofs.Arrays.{wide_at}
use Rattle.lists.specs.WorkingLists.{Grown}
use Rattle.lists.specs.WorkingLists.{Count, Full}
use Rattle.lists.specs.WorkingLists.{Holds, Within, Makes, makes, stops}

-- each string of the list has l positions
pub holds_length : {l : ℕ} {list : List ℕ} {n : ℕ} {τ : Entries} → Holds l list n τ → (i : ℕ) → i < n
    → length (get_or τ i []) ≡ l
holds_length {l = l} {τ = τ} h i lt = wide_at l τ i h.good.wide (omega (arith, h.count))

-- the slice of the first n words, which a loop goes over, has their words
pub holds_slice : {l : ℕ} {list : List ℕ} {n : ℕ} {τ : Entries} → Holds l list n τ → (i : ℕ) → i < n
    → get_or (take n list) i 0 ≡ word (get_or τ i [])
holds_slice {list = list} {n = n} h i lt = get_or-take n list i 0 lt ∙ h.here i lt

-- any array of 256 words holds the empty list
pub holds_empty : (l : ℕ) (list : List ℕ) → length list ≡ limit → l ≤ 32 → Holds l list 0 []
unfolding Wide
holds_empty l list room short = record {
  here = λ i lt. absurd (not-suc-le-zero lt);
  room = room;
  count = refl;
  good = record { wide = tt; few = omega arith };
  short = short;
}

-- ---- A store

-- the words below i are those of f, and so is the one that is stored there
pub run_turn : (ws : List ℕ) (f : ℕ → ℕ) (i y : ℕ) → i < length ws → ((m : ℕ) → m < i → get_or ws m 0 ≡ f m) → y ≡ f i
    → (m : ℕ) → m < i + 1 → get_or (set ws i y) m 0 ≡ f m
run_turn ws f i y room h is m lt = go (eqb m i) refl
  where
    go : (b : Bool) → eqb m i ≡ b → get_or (set ws i y) m 0 ≡ f m
    go true e = rw (eqb-true m i e, get_or-set_same ws i y 0 room) is
    go false e =
        let other = eqb-false m i e in
        get_or-set_other ws i m y 0 other ∙ h m (omega (arith, other))

-- the words from i on stay where one below is stored
pub run_stays : (ws : List ℕ) (k y : ℕ) (m : ℕ) → k < m → get_or (set ws k y) m 0 ≡ get_or ws m 0
run_stays ws k y m lt = get_or-set_other ws k m y 0 (λ e. absurd (omega (arith, e)))

-- one word more
module _ (list : List ℕ) (τ : Entries) (n : ℕ) (here : (i : ℕ) → i < n → get_or list i 0 ≡ word (get_or τ i []))
    (room : n < length list) (count : n ≡ length τ) (s : Trits) {y : ℕ} (is : y ≡ word s) where
  pub run_append : (i : ℕ) → i < n + 1 → get_or (set list n y) i 0 ≡ word (get_or (τ ++ (s ∷ [])) i [])
  run_append =
      run_turn list (λ i. word (get_or (τ ++ (s ∷ [])) i [])) n y room
      (λ i lt. here i lt ∙ ap word (sym (get_or-append τ (s ∷ []) [] i (omega (arith, count)))))
      (is ∙ ap word (sym (get_or_at τ s [] [] n (sym count))))

-- a list with one string more
pub holds_append : {l : ℕ} {list : List ℕ} {n : ℕ} {τ : Entries} → Holds l list n τ → (s : Trits) {y : ℕ} → length s ≡ l
    → y ≡ word s → n < limit → Holds l (set list n y) (n + 1) (τ ++ (s ∷ []))
unfolding Wide
holds_append {l = l} {list = list} {n = n} {τ = τ} h s {y = y} e is lt = record {
  here = run_append list τ n h.here (omega (arith, h.room)) h.count s is;
  room = length-set list n y ∙ h.room;
  count = omega (arith, h.count, length-append τ (s ∷ []));
  good = record {
    wide = wide_append l τ (s ∷ []) h.good.wide (e, tt);
    few = omega (arith, h.count, length-append τ (s ∷ []));
  };
  short = h.short;
}

-- a store past the count changes nothing of what is held
pub holds_past : {l : ℕ} {list : List ℕ} {n : ℕ} {τ : Entries} → Holds l list n τ → (k y : ℕ) → n ≤ k → Holds l (set list k y) n τ
holds_past {list = list} h k y le = record {
  here = λ i lt. get_or-set_other list k i y 0 (λ e. absurd (omega (arith, e))) ∙ h.here i lt;
  room = length-set list k y ∙ h.room;
  count = h.count;
  good = h.good;
  short = h.short;
}

-- ---- What a call makes, by its answer

pub makes_count : {l : ℕ} {list : List ℕ} {r : Grown} {o : Option Entries} {m : ℕ} → Makes l list r o → r ≡ Count m
    → (τ : Entries) × (o ≡ some τ) × Holds l list m τ
makes_count {m = m} (makes {n = n} {τ = τ} h) q = (τ, refl, let e : m ≡ n = cc in rw e h)
makes_count stops q = absurd (let z : ◌≡◌ {A = ℕ} 0 1 = cc in omega arith)

pub makes_full : {l : ℕ} {list : List ℕ} {r : Grown} {o : Option Entries} → Makes l list r o → r ≡ Full → o ≡ none
makes_full (makes h) q = absurd (let z : ◌≡◌ {A = ℕ} 0 1 = cc in omega arith)
makes_full stops q = refl

pub within_count : {r : Grown} {m : ℕ} → Within r → r ≡ Count m → m ≤ limit
within_count w e = rw e at w
