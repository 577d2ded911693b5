-- Strings by which growing a list changes nothing; a filter, which holds such strings, each as of a version of the list; and
-- the loop that grows a list by a row and skips them. Assumes nothing.
use mathlib.Core.Path.{◌≡◌, refl, sym, ap, ◌∙◌, subst}
use mathlib.Core.Bool.{Bool, true, false, not, ◌||◌}
use mathlib.Core.List.{List, [], ◌∷◌, ◌++◌, append-nil, append_assoc}
use mathlib.Core.Logic.{inl, inr, ⊎_elim}
use mathlib.Core.Option.{Option, some}
use Prim.Native.Nat.{ℕ, zero, suc, ◌+◌, ◌-◌, ◌*◌, ◌%◌, ◌^◌, ◌≤◌, ◌<◌}
use native.Mathlib.Omega.{arith}
use borrow.Author.Tests.{eqb-true, eqb-false, ltb-true, ltb-false, not-false}
use lib.Bits.{bit_or, or_zero_r}
use lib.Dec.{T, eqb, ltb, lit<}
use lib.ListN.{length, get_or, set, replicate, length-set, length-append, length-replicate, get_or-replicate}
use lib.Pow as pow
use lib.Seq.{get_or-set_same, get_or-set_other}
use Rattle.model.specs.Strings.{Trits, subsumes, all_zero}
use Rattle.model.specs.Growth.{Entries, limit, subsumed, remove, widen, absorbed, grow}
use Rattle.model.specs.Stirring.{stirs}
use Rattle.model.specs.Widest.{EntryOf}
use Rattle.model.proofs.Entries.{subsumes_length, remove_append}
use Rattle.model.proofs.Growth.{grow_absorbed}
use Rattle.model.proofs.Overflow.{remove_length}
use Rattle.model.proofs.Quiet.{appended, unstirred_grown, quiet_before}
use Rattle.model.proofs.Shape.{snoc_length}
use Rattle.model.proofs.Subsuming.{subsumes_same, subsumes_both}
use Rattle.model.proofs.Tests.{or_cases, or_left, or_right}
use Rattle.words.specs.Words.{word, zero_word, fixed_word, care_of, high, low, halves, subsumes_word}
use Rattle.words.proofs.Halves.{care_word, word_lt, fixed_lt, low_lt, halves_or}
use Rattle.words.proofs.Words.{word_subsumes, zero_string}
use Rattle.lists.specs.WorkingLists.{Count}
use Rattle.lists.specs.WorkingLists.{Holds, Makes, makes}
use Rattle.lists.specs.Filters.{Idle, QuietFrom, Noted, Slot, slots, filter_size, string_at, note_at, version_index}
use Rattle.lists.specs.Filters.{version, Filters, Seen}
use Rattle.lists.proofs.Holding.{holds_length}
use Rattle.lists.proofs.Growing.{append_room, append_full, grow_new}
use Rattle.lists.proofs.SoFar.{SoFar, so_far_same}

-- as `(a != b) | (c != d)` comes into a goal
both_same : (a b c d : ℕ) → (not (eqb a b) || not (eqb c d)) ≡ false → (a ≡ b) × (c ≡ d)
both_same a b c d e =
    let n = neither (not (eqb a b)) (not (eqb c d)) e in
    (eqb-true a b (not-false (eqb a b) n.0), eqb-true c d (not-false (eqb c d) n.1))
  where
    neither : (p q : Bool) → (p || q) ≡ false → (p ≡ false) × (q ≡ false)
    neither true q e = absurd (let z : ◌≡◌ {A = ℕ} 0 1 = cc in omega arith)
    neither false q e = (refl, e)

-- ---- Strings that change nothing

-- growing by such a string changes nothing
pub idle_absorbed : (τ : Entries) (s z : Trits) → Idle τ s z → T (absorbed τ s)
unfolding absorbed
idle_absorbed τ s z (inl h) = or_left (all_zero s) (subsumed τ (widen τ s)) h
idle_absorbed τ s z (inr h) = or_right (all_zero s) (subsumed τ (widen τ s)) (rw h.0 h.1)

-- and the other way round
pub absorbed_idle : (τ : Entries) (s : Trits) → T (absorbed τ s) → Idle τ s (widen τ s)
unfolding absorbed
absorbed_idle τ s h = ⊎_elim inl (λ k. inr (refl, k)) (or_cases (all_zero s) (subsumed τ (widen τ s)) h)

-- nor does it where a string is appended that does not stir it
idle_grown : (e : Trits) (τ : Entries) (s z : Trits) → Idle τ s z → ¬ (T (stirs e s z)) → Idle (remove e τ ++ (e ∷ [])) s z
idle_grown e τ s z (inl h) n = inl h
idle_grown e τ s z (inr h) n = inr (unstirred_grown e τ s z h.0 h.1 n)

-- the index of an entry
index_of : (ν : Entries) (e : Trits) → EntryOf ν e → (m : ℕ) × (m < length ν) × (get_or ν m [] ≡ e)
unfolding EntryOf
index_of [] e i = absurd i
index_of (r ∷ ν) e (inl i) = (0, omega arith, i)
index_of (r ∷ ν) e (inr i) = let m = index_of ν e i in (suc m.0, omega (arith, m.1), m.2)

-- what stands behind a list
getD_behind : (τ ν : Entries) (m : ℕ) → get_or (τ ++ ν) (length τ + m) [] ≡ get_or ν m []
getD_behind [] ν m = let z : 0 + m ≡ m = omega arith in rw z
getD_behind (r ∷ τ) ν m = let z : suc (length τ) + m ≡ suc (length τ + m) = omega arith in rw z (getD_behind τ ν m)

-- one entry more does not stir it
pub quiet_more : (τ : Entries) (s z : Trits) (j i : ℕ) → QuietFrom τ s z j i → stirs (get_or τ i []) s z ≡ false
    → QuietFrom τ s z j (i + 1)
quiet_more τ s z j i p e x le lt = go (eqb x i) refl
  where
    go : (b : Bool) → eqb x i ≡ b → ¬ (T (stirs (get_or τ x []) s z))
    go true q = rw (eqb-true x i q, e) (λ h. h)
    go false q = let other = eqb-false x i q in p x le (omega (arith, other))

module _ {a v : ℕ} {τ : Entries} {s : Trits} (b : Noted a v τ s) where
  -- it changes nothing while none of the entries of τ that may have been appended since stirs it
  pub noted_idle : (j n : ℕ) → n ≡ length τ → j + v ≤ n + low a → QuietFrom τ s b.widened j n → Idle τ s b.widened
  noted_idle j n count early quiet = b.still (λ e i h.
      let m = index_of b.since e i in
      let all : length τ ≡ length b.before + length b.since =
      ap length b.split ∙ length-append b.before b.since in
      let at : get_or τ (length b.before + m.0) [] ≡ e =
      ap (λ (ρ : Entries). get_or ρ (length b.before + m.0) []) b.split
      ∙ getD_behind b.before b.since m.0 ∙ m.2 in
      quiet (length b.before + m.0) (omega (arith, all, count, early, b.few, m.1)) (omega (arith, all, count, m.1))
      (rw at h))

  -- one string is appended and the version rises by one
  noted_next : (e : Trits) → Noted a (v + 1) (remove e τ ++ (e ∷ [])) s
  noted_next e = record {
    widened = b.widened;
    kept = b.kept;
    over = b.over;
    before = remove e b.before;
    since = remove e b.since ++ (e ∷ []);
    split =
        ap (λ (ρ : Entries). remove e ρ ++ (e ∷ [])) b.split
        ∙ ap (λ (ρ : Entries). ρ ++ (e ∷ [])) (remove_append e b.before b.since)
        ∙ append_assoc (remove e b.before) (remove e b.since) (e ∷ []);
    few = omega (arith, snoc_length (remove e b.since) e, remove_length e b.since, b.few);
    still = λ quiet.
        idle_grown e τ s b.widened (b.still (quiet_before e b.since s b.widened quiet))
        (quiet e (appended e b.since));
  }

-- noted of the list's own version
noted_now : {a v : ℕ} {τ : Entries} {s : Trits} (z : Trits) → high a ≡ care_of z → T (subsumes z s) → low a ≡ v → Idle τ s z
    → Noted a v τ s
noted_now {τ = τ} z kept over now idle = record {
  widened = z;
  kept = kept;
  over = over;
  before = τ;
  since = [];
  split = sym (append-nil τ);
  few = omega (arith, now);
  still = λ quiet. idle;
}

-- ---- Strings by their words

-- strings with the same word subsume each other
same_subsumes : (s r : Trits) → length s ≡ length r → length s ≤ 32 → word s ≡ word r → T (subsumes s r)
same_subsumes s r e short is =
    let own : subsumes_word (word s) (word s) ≡ subsumes s s = word_subsumes s s refl short in
    let other : subsumes_word (word s) (word r) ≡ subsumes s r = word_subsumes s r e short in
    subst T (sym own ∙ ap (subsumes_word (word s)) is ∙ other) (subsumes_same s)

-- all positions of the all-zero string are fixed: they are the high half of its word
zero_care : (l : ℕ) (s : Trits) → length s ≤ 32 → zero_word l ≡ word s → high (zero_word l) ≡ care_of s
unfolding zero_word fixed_word
zero_care l s short is =
    let all = 2 ^ l - 1 in
    let none : low (zero_word l) ≡ 0 = pow.low all 32 {lo = 0} (lit< tt) in
    sym (or_zero_r (high (zero_word l)))
    ∙ ap (bit_or (high (zero_word l))) (sym none)
    ∙ ap fixed_word is
    ∙ care_word s short

-- any slot may hold the word of the all-zero string, both for the string and for what is noted of it
slot_zero : {l w v : ℕ} (τ : Entries) → l ≤ 32 → w ≡ zero_word l → low w ≡ v → Slot l w w v τ
slot_zero {l} τ short is now =
    let z = zero_string l short in
    record {
      string = z.0;
      long = z.1;
      is = is ∙ z.3;
      noted = noted_now z.0 (ap high is ∙ zero_care l z.0 (rw z.1 short) z.3) (subsumes_same z.0) now
          (inl (rw z.2 tt));
    }

-- ---- A filter

-- filled with the word of the all-zero string, it is good for any list
pub filter_start : {l w : ℕ} (τ : Entries) → l ≤ 32 → w ≡ zero_word l → Filters l (replicate filter_size w) τ
filter_start {l} {w} τ short is = record {
  room = length-replicate {A = ℕ} filter_size w;
  slot = λ i h. rw (at i (omega arith), at (slots + i) (omega arith), at version_index (omega arith))
      (slot_zero τ short is refl);
}
  where
    at : (i : ℕ) → i < filter_size → get_or (replicate filter_size w) i 0 ≡ w
    at i h = get_or-replicate filter_size i w 0 h

module _ {l : ℕ} {τ : Entries} {seen : List ℕ} (f : Filters l seen τ) where
  -- a slot notes a string that the list absorbs
  pub filter_note : l ≤ 32 → (s u k : ℕ) (y z : Trits) → s < slots → length y ≡ l → u ≡ word y → k ≡ care_of z
      → T (subsumes z y) → Idle τ y z
      → Filters l (set (set seen s u) (slots + s) (bit_or ((k * 2 ^ 32) % 2 ^ 64) (version seen))) τ
  filter_note short s u k y z lt long is kept over idle = record {
    room = length-set (set seen s u) (slots + s) a ∙ length-set seen s u ∙ f.room;
    slot = λ i h. slot i h (eqb i s) refl;
  }
    where
      a : ℕ
      a = bit_or ((k * 2 ^ 32) % 2 ^ 64) (version seen)

      noted : List ℕ
      noted = set (set seen s u) (slots + s) a

      small : k < 2 ^ 32
      small =
          let z_short : length z ≤ 32 = rw (subsumes_length z y over ∙ long) short in
          rw (kept ∙ sym (care_word z z_short)) (fixed_lt (word z) (word_lt z z_short))

      -- the halves of what is noted
      past : version seen < 2 ^ 32
      past = low_lt (get_or seen version_index 0)

      a_is : a ≡ halves k (version seen)
      a_is = halves_or k (version seen) small past

      -- what is neither the string nor the note of slot s stays
      other : (i : ℕ) → (i ≡ s → ⊥) → (i ≡ slots + s → ⊥) → get_or noted i 0 ≡ get_or seen i 0
      other i b c = get_or-set_other (set seen s u) (slots + s) i a 0 c ∙ get_or-set_other seen s i u 0 b

      now : version noted ≡ version seen
      now = ap low (other version_index (λ e. omega arith) (λ e. omega arith))

      slot : (i : ℕ) → i < slots → (b : Bool) → eqb i s ≡ b → Slot l (string_at noted i) (note_at noted i) (version noted) τ
      slot i h true q =
          rw (
            now,
            eqb-true i s q,
            get_or-set_same (set seen s u) (slots + s) a 0 (omega (arith, length-set seen s u, f.room)),
            get_or-set_other (set seen s u) (slots + s) s a 0 (λ e. omega arith),
            get_or-set_same seen s u 0 (omega (arith, f.room)),
          )
          (record {
            string = y;
            long = long;
            is = is;
            noted = noted_now z (ap high a_is ∙ pow.high k 32 past ∙ kept) over (ap low a_is ∙ pow.low k 32 past) idle;
          })
      slot i h false q =
          let apart = eqb-false i s q in
          rw (now, other i apart (λ e. omega arith), other (slots + i) (λ e. omega arith) (λ e. apart (omega arith)))
          (f.slot i h)

  -- a string is appended, and the version rises
  pub filter_next : version seen < 2 ^ 32 - 1 → (e : Trits)
      → Filters l (set seen version_index (version seen + 1)) (remove e τ ++ (e ∷ []))
  filter_next h e = record {
    room = length-set seen version_index (version seen + 1) ∙ f.room;
    slot = λ i lt. rw (now, same i (omega arith), same (slots + i) (omega arith)) (next (f.slot i lt));
  }
    where
      raised : List ℕ
      raised = set seen version_index (version seen + 1)

      small : (x : ℕ) → x < 2 ^ 32 - 1 → low (x + 1) ≡ x + 1
      small x h = omega arith

      now : version raised ≡ version seen + 1
      now =
          ap low (get_or-set_same seen version_index (version seen + 1) 0 (omega (arith, f.room)))
          ∙ small (version seen) h

      same : (i : ℕ) → i < version_index → get_or raised i 0 ≡ get_or seen i 0
      same i h = get_or-set_other seen version_index i (version seen + 1) 0 (λ e. omega arith)

      next : {w a v : ℕ} → Slot l w a v τ → Slot l w a (v + 1) (remove e τ ++ (e ∷ []))
      next b = record { string = b.string; long = b.long; is = b.is; noted = noted_next b.noted e }

  -- what is noted of the string whose word stands in a slot
  pub filter_noted : l ≤ 32 → (k : ℕ) → k < slots → (y : Trits) → length y ≡ l → string_at seen k ≡ word y
      → Noted (note_at seen k) (version seen) τ y
  filter_noted short k lt y long is =
      let b = f.slot k lt in
      let s = b.string in
      let e : word s ≡ word y = sym b.is ∙ is in
      let one : s ≡ y =
      subsumes_both s y (same_subsumes s y (b.long ∙ sym long) (rw b.long short) e)
      (same_subsumes y s (long ∙ sym b.long) (rw long short) (sym e)) in
      subst (Noted (note_at seen k) (version seen) τ) one b.noted

  -- growing by a string whose word stands in a slot of the list's version changes nothing
  filter_same : l ≤ 32 → (k : ℕ) → k < slots → low (note_at seen k) ≡ version seen → (y : Trits) → length y ≡ l
      → string_at seen k ≡ word y → grow τ y ≡ some τ
  filter_same short k lt now y long is =
      let b = filter_noted short k lt y long is in
      grow_absorbed τ y (idle_absorbed τ y b.widened
      (noted_idle b (length τ) (length τ) refl (omega (arith, now)) (λ i le lt. absurd (omega arith))))

-- one word of the row more stands in a slot of the list's version
pub seen_more : (row seen : List ℕ) (j i k : ℕ) → Seen row seen j i → k < slots
    → (not (eqb (string_at seen k) (get_or row i 0)) || not (eqb (low (note_at seen k)) (version seen))) ≡ false
    → Seen row seen j (i + 1)
seen_more row seen j i k p lt tests x le h = go (eqb x i) refl
  where
    go : (b : Bool) → eqb x i ≡ b
        → (k : ℕ) × (k < slots) × (string_at seen k ≡ get_or row x 0) × (low (note_at seen k) ≡ version seen)
    go true e =
        let same = both_same (string_at seen k) (get_or row i 0) (low (note_at seen k)) (version seen) tests in
        (k, lt, rw (eqb-true x i e) same.0, same.1)
    go false e = let other = eqb-false x i e in p x le (omega (arith, other))

-- ---- What growing makes of a list and its filter

module _ {l : ℕ} (τ : Entries) (s : Trits) where
  -- a string that the list absorbs leaves both
  module _ (absorbs : T (absorbed τ s)) where
    pub absorbed_makes : {list : List ℕ} {n : ℕ} → Holds l list n τ → Makes l list (Count n) (grow τ s)
    absorbed_makes h = rw (grow_absorbed τ s absorbs) (makes h)

    pub absorbed_filter : {κ : Entries} → grow τ s ≡ some κ → {seen : List ℕ} → Filters l seen τ → Filters l seen κ
    absorbed_filter {κ} g f =
        let same = sym (grow_absorbed τ s absorbs) ∙ g in
        let z : τ ≡ κ = cc in
        rw (← z) f

  -- any other is appended, once it is widened, in place of what it subsumes
  pub grown_filter : {κ : Entries} → absorbed τ s ≡ false → grow τ s ≡ some κ → {seen : List ℕ}
      → Filters l seen (remove (widen τ s) τ ++ (widen τ s ∷ [])) → Filters l seen κ
  grown_filter {κ} changes g {seen} f = go (ltb (length kept) limit) refl
    where
      kept : Entries
      kept = remove (widen τ s) τ

      go : (b : Bool) → ltb (length kept) limit ≡ b → Filters l seen κ
      go true q =
          let same = sym (grow_new τ s changes ∙ append_room kept (widen τ s) (ltb-true (length kept) limit q)) ∙ g in
          let z : kept ++ (widen τ s ∷ []) ≡ κ = cc in
          rw (← z) f
      go false q =
          let none = sym (grow_new τ s changes ∙ append_full kept (widen τ s) (ltb-false (length kept) limit q)) ∙ g in
          absurd (let z : ◌≡◌ {A = ℕ} 0 1 = cc in omega arith)

-- ---- The loop

-- the strings from j up to r stand in slots of the list's version, and are skipped
pub skip_seen : {l : ℕ} {ρ : Entries} {whole : Option Entries} {row : List ℕ} {m : ℕ} → Holds l row m ρ
    → {list seen : List ℕ} {k j : ℕ} → SoFar l grow ρ whole (Filters l seen) list k j → (r : ℕ) → j ≤ r → r ≤ m
    → Seen row seen j r → SoFar l grow ρ whole (Filters l seen) list k r
skip_seen {l} {ρ} {whole} {row} {m} y {list} {seen} {k} {j} w r h le p =
    subst (SoFar l grow ρ whole (Filters l seen) list k) (let z : j + (r - j) ≡ r = omega arith in z)
    (go (r - j) j (omega arith) (λ i c d. p i c (omega arith)) w)
  where
    go : (d i : ℕ) → i + d ≤ m → Seen row seen i (i + d) → SoFar l grow ρ whole (Filters l seen) list k i
        → SoFar l grow ρ whole (Filters l seen) list k (i + d)
    go zero i h p w = let z : i + 0 ≡ i = omega arith in rw z w
    go (suc d) i h p w =
        let s : i + suc d ≡ (i + 1) + d = omega arith in
        let at = p i (omega arith) (omega arith) in
        rw s
        (go d (i + 1) (omega arith) (λ x c b. p x (omega arith) (omega arith))
        (so_far_same w [] (omega (arith, y.count))
        (filter_same w.known y.short at.0 at.1 at.3 (get_or ρ i []) (holds_length y i (omega arith))
        (at.2 ∙ y.here i (omega arith)))))
