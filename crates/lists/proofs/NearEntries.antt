-- Widening looks only at the near entries, those that lack at most one position of what is widened; how these are gathered
-- in the upper half of the list's array. Assumes nothing.
use mathlib.Core.Path.{◌≡◌, refl, sym, ap, ap₂, ◌∙◌, subst}
use mathlib.Core.Bool.{Bool, true, false, false≢true, ◌||◌, cond}
use mathlib.Core.List.{List, [], ◌∷◌, ◌++◌, append-nil}
use Prim.Native.Nat.{ℕ, zero, suc, ◌+◌, ◌≤◌, ◌<◌}
use native.Mathlib.Omega.{arith}
use native.Mathlib.Numerals.{add-one}
use borrow.Author.Tests.{lt-ltb, eqb-true, eqb-false}
use lib.Bits.{bit_or, or_zero_l}
use lib.Dec.{T, eqb}
use lib.ListN.{length, get_or, set, take, drop, length-append, get_or-append, length-take, length-drop}
use borrow.Rule.Slice.PartMut.{mid_of, post_of, put_mid, same_len_mid}
use Rattle.std.proofs.lemmas.List.{get_or-take, get_or-append-add}
use lib.Seq.{get_or_at, get_or-set_same, get_or-set_other, get_or-drop, take-suc, take-length, length-take-le}
use Rattle.model.specs.Groups.{or}
use Rattle.model.specs.Strings.{Trits, subsumes_digit, subsumes}
use Rattle.model.specs.Growth.{Entries, limit, subsumed}
use Rattle.model.specs.Tables.{Wide}
use Rattle.model.proofs.Subsuming.{digit_trans}
use Rattle.model.proofs.Tests.{tests, true_of}
use Rattle.words.specs.Words.{word, set_word, lack_count, near, openings, shade_word}
use Rattle.words.proofs.Codec.{set_word_or}
use Rattle.words.proofs.Shades.{far_none}
use Rattle.lists.specs.WorkingLists.{Holds}
use Rattle.lists.specs.Widening.{near_list, open_set, half, Gathered, Shaded}

-- ---- Of a string t that subsumes s

-- an entry that subsumes t lacks nothing of s
lacks_none : (e t s : Trits) → T (subsumes e t) → T (subsumes t s) → lack_count e s ≡ 0
unfolding subsumes lack_count
lacks_none [] t s h k = refl
lacks_none (a ∷ e) t [] h k = refl
lacks_none (a ∷ e) [] (u ∷ s) h k = absurd h
lacks_none (a ∷ e) (v ∷ t) (u ∷ s) h k =
    rw (true_of (subsumes_digit a u) (search (tests, digit_trans a v u)))
    (lacks_none e t s (search (tests)) (search (tests)))

-- it is near s
near_over : (e t s : Trits) → T (subsumes e t) → T (subsumes t s) → near e s ≡ true
unfolding near
near_over e t s h over = lt-ltb (lack_count e s) 2 (omega (arith, lacks_none e t s h over))

module _ (s t : Trits) (over : T (subsumes t s)) where
  -- t is subsumed by a near entry exactly where it is by any
  pub near_subsumed : (τ : Entries) → subsumed (near_list τ s) t ≡ subsumed τ t
  unfolding subsumed near_list
  near_subsumed [] = refl
  near_subsumed (e ∷ τ) = go (near e s) (subsumes e t) refl (λ h. near_over e t s h over) (near_subsumed τ)
    where
      go : (b c : Bool) → subsumes e t ≡ c → (T c → b ≡ true) → subsumed (near_list τ s) t ≡ subsumed τ t
          → subsumed (cond b (e ∷ near_list τ s) (near_list τ s)) t ≡ (c || subsumed τ t)
      go true c is g ih = ap₂ ◌||◌ is ih
      go false true is g ih = absurd (false≢true (g tt))
      go false false is g ih = ih

  -- the near entries open what all do
  pub near_open : (τ : Entries) → Wide (length s) τ → length t ≡ length s
      → set_word (open_set (near_list τ s) t) ≡ set_word (open_set τ t)
  unfolding open_set near_list Wide
  near_open [] w long = refl
  near_open (e ∷ τ) w long = go (near e s) refl (near_open τ w.1 long)
    where
      go : (b : Bool) → near e s ≡ b → set_word (open_set (near_list τ s) t) ≡ set_word (open_set τ t)
          → set_word (open_set (cond b (e ∷ near_list τ s) (near_list τ s)) t) ≡ set_word (or (openings e t) (open_set τ t))
      go true q ih =
          set_word_or (openings e t) (open_set (near_list τ s) t)
          ∙ ap (bit_or (set_word (openings e t))) ih
          ∙ sym (set_word_or (openings e t) (open_set τ t))
      go false q ih =
          ih ∙ sym (set_word_or (openings e t) (open_set τ t)
          ∙ ap (λ (x : ℕ). bit_or x (set_word (open_set τ t))) (far_none e s t w.0 long q over)
          ∙ or_zero_l (set_word (open_set τ t)))

-- no entry subsumes anything
pub empty_subsumed : (τ : Entries) (s : Trits) → 0 ≡ length τ → subsumed τ s ≡ false
unfolding subsumed
empty_subsumed [] s e = refl
empty_subsumed (r ∷ τ) s e = absurd (omega arith)

-- ---- The near entries of a list

near_append : (τ ρ : Entries) (s : Trits) → near_list (τ ++ ρ) s ≡ near_list τ s ++ near_list ρ s
unfolding near_list
near_append [] ρ s = refl
near_append (e ∷ τ) ρ s = go (near e s) (near_append τ ρ s)
  where
    go : (b : Bool) → near_list (τ ++ ρ) s ≡ near_list τ s ++ near_list ρ s
        → cond b (e ∷ near_list (τ ++ ρ) s) (near_list (τ ++ ρ) s) ≡ cond b (e ∷ near_list τ s) (near_list τ s) ++ near_list ρ s
    go true h = ap (λ (r : Entries). e ∷ r) h
    go false h = h

-- one entry more
near_take : (τ : Entries) (s : Trits) (i : ℕ) → i < length τ
    → near_list (take (i + 1) τ) s ≡ near_list (take i τ) s ++ cond (near (get_or τ i []) s) (get_or τ i [] ∷ []) []
unfolding near_list
near_take τ s i lt =
    ap (λ (k : ℕ). near_list (take k τ) s) (add-one i)
    ∙ ap (λ (r : Entries). near_list r s) (take-suc τ i [] lt)
    ∙ near_append (take i τ) (get_or τ i [] ∷ []) s

-- each of them is near, and as long as the entries
pub near_each : (l : ℕ) (τ : Entries) (s : Trits) → Wide l τ → (i : ℕ) → i < length (near_list τ s)
    → (length (get_or (near_list τ s) i []) ≡ l) × (near (get_or (near_list τ s) i []) s ≡ true)
unfolding near_list Wide
near_each l [] s w i lt = absurd (omega arith)
near_each l (e ∷ τ) s w i lt = go (near e s) refl i lt (near_each l τ s w.1)
  where
    go : (b : Bool) → near e s ≡ b → (i : ℕ) → i < length (cond b (e ∷ near_list τ s) (near_list τ s))
        → ((i : ℕ) → i < length (near_list τ s)
        → (length (get_or (near_list τ s) i []) ≡ l) × (near (get_or (near_list τ s) i []) s ≡ true))
        → (length (get_or (cond b (e ∷ near_list τ s) (near_list τ s)) i []) ≡ l)
        × (near (get_or (cond b (e ∷ near_list τ s) (near_list τ s)) i []) s ≡ true)
    go true q zero lt f = (w.0, q)
    go true q (suc i) lt f = f i (omega arith)
    go false q i lt f = f i lt

-- ---- Gathering

module _ {f : Trits → ℕ} {list : List ℕ} {k : ℕ} {ν : Entries} (g : Gathered f list k ν) where
  -- a store behind them changes nothing
  pub gathered_past : (y : ℕ) → Gathered f (set list (half + k) y) k ν
  gathered_past y = record {
    here = λ i lt. get_or-set_other list (half + k) (half + i) y 0 (λ e. absurd (omega (arith, e))) ∙ g.here i lt;
    count = g.count;
  }

  -- one more
  pub gathered_add : (e : Trits) {y : ℕ} → y ≡ f e → half + k < length list
      → Gathered f (set list (half + k) y) (k + 1) (ν ++ (e ∷ []))
  gathered_add e {y} is room = record {
    here = λ i lt. go i lt (eqb i k) refl;
    count = omega (arith, g.count, length-append ν (e ∷ []));
  }
    where
      go : (i : ℕ) → i < k + 1 → (b : Bool) → eqb i k ≡ b
          → get_or (set list (half + k) y) (half + i) 0 ≡ f (get_or (ν ++ (e ∷ [])) i [])
      go i lt true q =
          rw (eqb-true i k q, get_or-set_same list (half + k) y 0 room) (is ∙ ap f (sym (get_or_at ν e [] [] k (sym g.count))))
      go i lt false q =
          let other = eqb-false i k q in
          get_or-set_other list (half + k) (half + i) y 0 (λ d. other (omega (arith, d)))
          ∙ g.here i (omega (arith, other))
          ∙ ap f (sym (get_or-append ν (e ∷ []) [] i (omega (arith, other, g.count))))

-- The near ones of the first i entries are gathered.
pub record GatheredSoFar (f : Trits → ℕ) (list : List ℕ) (k : ℕ) (τ : Entries) (s : Trits) (i : ℕ) : Type 0 where
  pub done : Gathered f list k (near_list (take i τ) s)

-- none yet
pub gather_start : (f : Trits → ℕ) (list : List ℕ) (τ : Entries) (s : Trits) → GatheredSoFar f list 0 τ s 0
unfolding near_list
gather_start f list τ s = record { done = record { here = λ i lt. absurd (omega arith); count = refl } }

module _ {f : Trits → ℕ} {list : List ℕ} {k i : ℕ} {τ : Entries} {s : Trits} (g : GatheredSoFar f list k τ s i) where
  module _ (lt : i < length τ) where
    -- the entry at i is near, and is stored
    pub gather_add : {y : ℕ} → near (get_or τ i []) s ≡ true → y ≡ f (get_or τ i []) → half + k < length list
        → GatheredSoFar f (set list (half + k) y) (k + 1) τ s (i + 1)
    gather_add t is room =
        record { done = rw (near_take τ s i lt, t) (gathered_add g.done (get_or τ i []) is room) }

    -- it is not, whatever is stored
    pub gather_skip : (y : ℕ) → near (get_or τ i []) s ≡ false → GatheredSoFar f (set list (half + k) y) k τ s (i + 1)
    gather_skip y t = record { done = rw (near_take τ s i lt, t, append-nil) (gathered_past g.done y) }

  -- all of them
  pub gather_end : i ≡ length τ → Gathered f list k (near_list τ s)
  gather_end e =
      subst (λ (r : Entries). Gathered f list k (near_list r s)) (ap (λ (m : ℕ). take m τ) e ∙ take-length τ) g.done

-- ---- Their shades

-- the part of the k words gathered, each made its shade for y, put back
module _ (list part : List ℕ) {k q : ℕ} (e : q ≡ k) (few : k ≤ half) (room : length list ≡ limit)
    (as_long : length part ≡ length (mid_of half q list)) where
  front : length (take half list) ≡ half
  front = length-take-le half list (omega arith)

  -- what stands before it stays
  pub put_back_holds : {l n : ℕ} {τ : Entries} → Holds l list n τ → n ≤ half → Holds l (put_mid half q list part) n τ
  put_back_holds h le = record {
    here = λ i lt.
        get_or-append (take half list) (part ++ post_of half q list) 0 i (omega (arith, front))
        ∙ get_or-take half list i 0 (omega arith)
        ∙ h.here i lt;
    room = same_len_mid half q list part as_long ∙ room;
    count = h.count;
    good = h.good;
    short = h.short;
  }

  -- it has the shades
  pub put_back_shades : {ν : Entries} (s : Trits) {y : ℕ} → Gathered word list k ν → y ≡ word s
      → ((m : ℕ) → m < k → get_or part m 0 ≡ shade_word (get_or (mid_of half q list) m 0) y)
      → Shaded s (put_mid half q list part) k ν
  put_back_shades s g is shades = record {
    here = λ m lt.
        ap (λ (j : ℕ). get_or (put_mid half q list part) (j + m) 0) (sym front)
        ∙ get_or-append-add (take half list) (part ++ post_of half q list) m 0
        ∙ get_or-append part (post_of half q list) 0 m (omega (arith, length-take q (drop half list), length-drop half list))
        ∙ shades m lt
        ∙ ap₂ shade_word (get_or-take q (drop half list) m 0 (omega arith) ∙ get_or-drop half list m 0 ∙ g.here m lt) is;
    count = g.count;
  }
