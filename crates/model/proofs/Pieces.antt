-- The pieces that v leaves of a string that matches it: none matches v, pieces of strings apart are apart, and a string
-- within it that does not match v is within a piece. Assumes nothing.
use mathlib.Core.Path.{◌≡◌, refl, ap₂}
use mathlib.Core.Bool.{Bool, true, false, not, ◌&&◌, cond}
use mathlib.Core.List.{[], ◌∷◌, ◌++◌, map}
use mathlib.Core.Logic.{inl, inr, ⊎_elim}
use lib.Dec.{T, ltb}
use Rattle.model.specs.Strings.{Trit, t0, t1, t*, Trits, match_digit, matches, subsumes_digit, subsumes}
use Rattle.model.specs.Strings.{fixed_digit, flip, pieces}
use Rattle.model.specs.Growth.{Entries, subsumed, Apart}
use Rattle.model.specs.Tables.{pieces_of}
use Rattle.model.specs.Widest.{EntryOf, opposed_count, Antichain}
use Rattle.model.proofs.Tests.{tests, or_cases, or_left, or_right, and_first, and_second, and_both, true_of, decide}
use Rattle.model.proofs.Positions.{pieces_nil, pieces_cons}
use Rattle.model.proofs.Given.{Each, each_to, each_append}
use Rattle.model.proofs.Subsuming.{subsumes_same, subsumes_trans, subsumes_both, same_digit, wider_digit}
use Rattle.model.proofs.Subsuming.{wider_matches, matched_nowhere}
use Rattle.model.proofs.Entries.{each_entry, Neither, apart_entry, entries_apart, antichain_append, subsumed_append}

-- ---- One piece

-- z is the piece of y that v leaves at one position: y is `*` there, v is fixed, and z has the opposite of v.
pub data Piece : Trits → Trits → Trits → Type 0 where
  here : {u : Trit} {y v : Trits} → T (fixed_digit u) → Piece (t* ∷ y) (u ∷ v) (flip u ∷ y)
  there : {t u : Trit} {y v z : Trits} → Piece y v z → Piece (t ∷ y) (u ∷ v) (t ∷ z)

-- a fixed digit does not match its opposite
opposite_digit : (u : Trit) → T (fixed_digit u) → ¬ (T (match_digit (flip u) u))
opposite_digit t0 f m = m
opposite_digit t1 f m = m
opposite_digit t* f m = f

-- A piece does not match v.
pub piece_unmatched : (y v z : Trits) → Piece y v z → ¬ (T (matches z v))
unfolding matches
piece_unmatched [] v z p m = elim p [ ]
piece_unmatched (t ∷ y) [] z p m = elim p [ ]
piece_unmatched (t ∷ y) (u ∷ v) [] p m = elim p [ ]
piece_unmatched (t ∷ y) (u ∷ v) (w ∷ z) (here f) m = opposite_digit u f (and_first (match_digit w u) (matches z v) m)
piece_unmatched (t ∷ y) (u ∷ v) (w ∷ z) (there p) m = piece_unmatched y v z p (and_second (match_digit t u) (matches z v) m)

-- The whole subsumes the piece.
pub piece_within : (y v z : Trits) → Piece y v z → T (subsumes y z)
unfolding subsumes
piece_within [] v z p = elim p [ ]
piece_within (t ∷ y) [] z p = elim p [ ]
piece_within (t ∷ y) (u ∷ v) [] p = elim p [ ]
piece_within (t ∷ y) (u ∷ v) (w ∷ z) (here f) = subsumes_same y
piece_within (t ∷ y) (u ∷ v) (w ∷ z) (there p) = and_both (subsumes_digit t t) (subsumes y z) (self t) (piece_within y v z p)
  where
    self : (t : Trit) → T (subsumes_digit t t)
    self t0 = tt
    self t1 = tt
    self t* = tt

-- A string that matches v and subsumes the piece subsumes the whole.
pub piece_up : (y v z r : Trits) → T (matches y v) → Piece y v z → T (matches r v) → T (subsumes r z) → T (subsumes r y)
unfolding matches subsumes
piece_up [] v z r m p n h = elim p [ ]
piece_up (t ∷ y) [] z r m p n h = elim p [ ]
piece_up (t ∷ y) (u ∷ v) [] r m p n h = elim p [ ]
piece_up (t ∷ y) (u ∷ v) (w ∷ z) [] m p n h = absurd h
piece_up (t ∷ y) (u ∷ v) (w ∷ z) (x ∷ r) m (here f) n h = search (tests, star x u)
  where
    star : (x u : Trit) → T (fixed_digit u) → T (match_digit x u) → T (subsumes_digit x (flip u)) → T (subsumes_digit x t*)
    star t0 t0 f m h = h
    star t0 t1 f m h = m
    star t0 t* f m h = f
    star t1 t0 f m h = m
    star t1 t1 f m h = h
    star t1 t* f m h = f
    star t* u f m h = tt
piece_up (t ∷ y) (u ∷ v) (w ∷ z) (x ∷ r) m (there p) n h = search (tests, piece_up y v z r)

-- Between the piece and the whole only the piece does not match v.
pub piece_only : (y v z r : Trits) → T (matches y v) → Piece y v z → T (subsumes y r) → T (subsumes r z)
    → ¬ (T (matches r v)) → r ≡ z
unfolding matches subsumes
piece_only [] v z r m p k h n = elim p [ ]
piece_only (t ∷ y) [] z r m p k h n = elim p [ ]
piece_only (t ∷ y) (u ∷ v) [] r m p k h n = elim p [ ]
piece_only (t ∷ y) (u ∷ v) (w ∷ z) [] m p k h n = absurd h
piece_only (t ∷ y) (u ∷ v) (w ∷ z) (x ∷ r) m (here f) k h n =
    let i : T (subsumes r y) = search (tests) in
    ap₂ {C = Trits} (λ a b. a ∷ b)
    (value x u (search (tests)) (λ a. n (and_both (match_digit x u) (matches r v) a (wider_matches r y v i m))))
    (subsumes_both r y i k)
  where
    value : (x u : Trit) → T (subsumes_digit x (flip u)) → ¬ (T (match_digit x u)) → x ≡ flip u
    value t0 t0 h n = absurd h
    value t0 t1 h n = refl
    value t0 t* h n = absurd h
    value t1 t0 h n = refl
    value t1 t1 h n = absurd h
    value t1 t* h n = absurd h
    value t* u h n = absurd (n tt)
piece_only (t ∷ y) (u ∷ v) (w ∷ z) (x ∷ r) m (there p) k h n =
    ap₂ {C = Trits} (λ a b. a ∷ b) (same_digit x t (search (tests)) (search (tests)))
    (piece_only y v z r (search (tests)) p (search (tests)) (search (tests)) (λ a. n (search (tests, wider_digit x t u))))

-- What subsumes a piece is opposed to v at one position at most.
pub piece_edge : (y v z e : Trits) → T (matches y v) → Piece y v z → T (subsumes e z) → T (ltb (opposed_count e v) 2)
unfolding matches subsumes opposed_count
piece_edge [] v z e m p h = elim p [ ]
piece_edge (t ∷ y) [] z e m p h = elim p [ ]
piece_edge (t ∷ y) (u ∷ v) [] e m p h = elim p [ ]
piece_edge (t ∷ y) (u ∷ v) (w ∷ z) [] m p h = absurd h
piece_edge (t ∷ y) (u ∷ v) (w ∷ z) (x ∷ e) m (here f) h =
    rw (matched_nowhere e v (wider_matches e y v (search (tests)) m)) (one (match_digit x u))
  where
    one : (b : Bool) → T (ltb (cond b 0 1) 2)
    one true = tt
    one false = tt
piece_edge (t ∷ y) (u ∷ v) (w ∷ z) (x ∷ e) m (there p) h =
    rw (true_of (match_digit x u) (search (tests, wider_digit x t u)))
    (piece_edge y v z e (search (tests)) p (search (tests)))

-- ---- The pieces of one string

-- The list of pieces holds pieces.
pub pieces_are : (y v : Trits) → T (matches y v) → Each (Piece y v) (pieces y v)
unfolding matches Each
pieces_are [] [] m = rw pieces_nil tt
pieces_are [] (u ∷ v) m = absurd m
pieces_are (t ∷ y) [] m = absurd m
pieces_are (t ∷ y) (u ∷ v) m = rw (pieces_cons t u y v) (step t u _ (front (pieces y v) (pieces_are y v (search (tests)))))
  where
    front : (ρ : Entries) → Each (Piece y v) ρ → Each (Piece (t ∷ y) (u ∷ v)) (map (λ (s : Trits). t ∷ s) ρ)
    front [] e = tt
    front (z ∷ ρ) e = (there e.0, front ρ e.1)

    step : (t u : Trit) (ρ : Entries) → Each (Piece (t ∷ y) (u ∷ v)) ρ
        → Each (Piece (t ∷ y) (u ∷ v)) (cond (not (fixed_digit t) && fixed_digit u) ((flip u ∷ y) ∷ ρ) ρ)
    step t0 u ρ e = e
    step t1 u ρ e = e
    step t* t0 ρ e = (here tt, e)
    step t* t1 ρ e = (here tt, e)
    step t* t* ρ e = e

-- A string within y that does not match v is within a piece.
pub piece_found : (y v s : Trits) → T (matches y v) → T (subsumes y s) → ¬ (T (matches s v)) → T (subsumed (pieces y v) s)
unfolding matches subsumes subsumed
piece_found [] [] [] m h n = absurd (n tt)
piece_found [] [] (w ∷ s) m h n = absurd h
piece_found [] (u ∷ v) s m h n = absurd m
piece_found (t ∷ y) [] s m h n = absurd m
piece_found (t ∷ y) (u ∷ v) [] m h n = absurd h
piece_found (t ∷ y) (u ∷ v) (w ∷ s) m h n =
    rw (pieces_cons t u y v) (go (decide (matches s v)) (piece_found y v s (search (tests)) (search (tests))))
  where
    -- the pieces at the other positions
    rest : Entries
    rest = map (λ (z : Trits). t ∷ z) (pieces y v)

    -- where only the first position keeps the string from matching v, that is where the piece is
    opened : (t u w : Trit) → T (match_digit t u) → T (subsumes_digit t w) → ¬ (T (match_digit w u))
        → T (not (fixed_digit t) && fixed_digit u) × T (subsumes_digit (flip u) w)
    opened t0 u t0 m h n = absurd (n m)
    opened t0 u t1 m h n = absurd h
    opened t0 u t* m h n = absurd h
    opened t1 u t0 m h n = absurd h
    opened t1 u t1 m h n = absurd (n m)
    opened t1 u t* m h n = absurd h
    opened t* t0 t0 m h n = absurd (n tt)
    opened t* t0 t1 m h n = (tt, tt)
    opened t* t1 t0 m h n = (tt, tt)
    opened t* t1 t1 m h n = absurd (n tt)
    opened t* t* t0 m h n = absurd (n tt)
    opened t* t* t1 m h n = absurd (n tt)
    opened t* u t* m h n = absurd (n tt)

    front : (ρ : Entries) → T (subsumed ρ s) → T (subsumed (map (λ (z : Trits). t ∷ z) ρ) (w ∷ s))
    front [] k = k
    front (z ∷ ρ) k =
        ⊎_elim
        (λ a. or_left (subsumes_digit t w && subsumes z s) _ (search (tests)))
        (λ a. or_right (subsumes_digit t w && subsumes z s) _ (front ρ a))
        (or_cases (subsumes z s) (subsumed ρ s) k)

    behind : (b : Bool) → T (subsumed rest (w ∷ s)) → T (subsumed (cond b ((flip u ∷ y) ∷ rest) rest) (w ∷ s))
    behind true k = or_right (subsumes_digit (flip u) w && subsumes y s) _ k
    behind false k = k

    go : Dec (T (matches s v)) → (¬ (T (matches s v)) → T (subsumed (pieces y v) s))
        → T (subsumed (cond (not (fixed_digit t) && fixed_digit u) ((flip u ∷ y) ∷ rest) rest) (w ∷ s))
    go (yes q) f =
        let o = opened t u w (search (tests)) (search (tests)) (λ a. n (search (tests))) in
        rw (true_of (not (fixed_digit t) && fixed_digit u) o.0)
        (or_left (subsumes_digit (flip u) w && subsumes y s) _
        (and_both (subsumes_digit (flip u) w) (subsumes y s) o.1 (search (tests))))
    go (no q) f = behind (not (fixed_digit t) && fixed_digit u) (front (pieces y v) (f q))

-- ---- The pieces of a list

-- z is a piece of an entry that matches v.
pub record PieceOf (v : Trits) (τ : Entries) (z : Trits) : Type 0 where
  pub y : Trits
  pub entry : EntryOf τ y
  pub matched : T (matches y v)
  pub piece : Piece y v z

-- The list of pieces of a list holds pieces of its entries.
pub pieces_of_are : (v : Trits) (τ : Entries) → Each (PieceOf v τ) (pieces_of v τ)
unfolding pieces_of EntryOf Each
pieces_of_are v [] = tt
pieces_of_are v (y ∷ τ) = go (matches y v) refl (each_to later (pieces_of v τ) (pieces_of_are v τ))
  where
    later : (z : Trits) → PieceOf v τ z → PieceOf v (y ∷ τ) z
    later z p = record { y = p.y; entry = inr p.entry; matched = p.matched; piece = p.piece }

    go : (b : Bool) → matches y v ≡ b → Each (PieceOf v (y ∷ τ)) (pieces_of v τ)
        → Each (PieceOf v (y ∷ τ)) (cond b (pieces y v ++ pieces_of v τ) (pieces_of v τ))
    go true e ps =
        let m : T (matches y v) = rw e tt in
        each_append (PieceOf v (y ∷ τ)) (pieces y v) (pieces_of v τ)
        (each_to (λ z p. record { y = y; entry = inl refl; matched = m; piece = p }) (pieces y v) (pieces_are y v m)) ps
    go false e ps = ps

-- A string within an entry that matches v, which does not match v itself, is within a piece.
pub pieces_of_found : (v : Trits) (τ : Entries) (y s : Trits) → EntryOf τ y → T (matches y v) → T (subsumes y s)
    → ¬ (T (matches s v)) → T (subsumed (pieces_of v τ) s)
unfolding pieces_of EntryOf
pieces_of_found v [] y s e m h n = absurd e
pieces_of_found v (r ∷ τ) y s (inl e) m h n =
    let k : T (matches r v) = rw e m in
    rw (true_of (matches r v) k, subsumed_append (pieces r v) (pieces_of v τ) s)
    (or_left (subsumed (pieces r v) s) (subsumed (pieces_of v τ) s) (piece_found r v s k (rw e h) n))
pieces_of_found v (r ∷ τ) y s (inr e) m h n = go (matches r v) (pieces_of_found v τ y s e m h n)
  where
    go : (b : Bool) → T (subsumed (pieces_of v τ) s) → T (subsumed (cond b (pieces r v ++ pieces_of v τ) (pieces_of v τ)) s)
    go true k =
        rw (subsumed_append (pieces r v) (pieces_of v τ) s) (or_right (subsumed (pieces r v) s) (subsumed (pieces_of v τ) s) k)
    go false k = k

-- ---- Pieces that are apart

-- no piece of a string subsumes another of it
pieces_antichain : (y v : Trits) → T (matches y v) → Antichain (pieces y v)
unfolding matches subsumes Each Apart Antichain
pieces_antichain [] [] m = rw pieces_nil tt
pieces_antichain [] (u ∷ v) m = absurd m
pieces_antichain (t ∷ y) [] m = absurd m
pieces_antichain (t ∷ y) (u ∷ v) m =
    rw (pieces_cons t u y v)
    (go (not (fixed_digit t) && fixed_digit u) (λ b. first b (pieces y v) (pieces_are y v (search (tests))))
    (front (pieces y v) (pieces_antichain y v (search (tests)))))
  where
    with_t : Trits → Trits
    with_t z = t ∷ z

    front_apart : (s : Trits) (ρ : Entries) → Apart s ρ → Apart (t ∷ s) (map with_t ρ)
    front_apart s [] a = tt
    front_apart s (r ∷ ρ) a = (
      (
        λ h. a.0.0 (and_second (subsumes_digit t t) (subsumes s r) h),
        λ h. a.0.1 (and_second (subsumes_digit t t) (subsumes r s) h),
      ),
      front_apart s ρ a.1,
    )

    front : (ρ : Entries) → Antichain ρ → Antichain (map with_t ρ)
    front [] a = tt
    front (s ∷ ρ) a = (front_apart s ρ a.0, front ρ a.1)

    fixed : (t u : Trit) → T (not (fixed_digit t) && fixed_digit u) → ¬ (T (subsumes_digit (flip u) t))
    fixed t0 u f h = f
    fixed t1 u f h = f
    fixed t* t0 f h = h
    fixed t* t1 f h = h
    fixed t* t* f h = f

    first : T (not (fixed_digit t) && fixed_digit u) → (ρ : Entries) → Each (Piece y v) ρ → Apart (flip u ∷ y) (map with_t ρ)
    first f [] e = tt
    first f (z ∷ ρ) e = (
      (
        λ h. fixed t u f (and_first (subsumes_digit (flip u) t) (subsumes y z) h),
        λ h. piece_unmatched y v z e.0 (wider_matches z y v (search (tests)) (search (tests))),
      ),
      first f ρ e.1,
    )

    go : (b : Bool) → (T b → Apart (flip u ∷ y) (map with_t (pieces y v))) → Antichain (map with_t (pieces y v))
        → Antichain (cond b ((flip u ∷ y) ∷ map with_t (pieces y v)) (map with_t (pieces y v)))
    go true f a = (f tt, a)
    go false f a = a

-- a piece that subsumes a piece of another string is of a string that subsumes the other
pieces_over : (y v z y' z' : Trits) → T (matches y v) → Piece y v z → T (matches y' v) → Piece y' v z'
    → T (subsumes z z') → T (subsumes y y')
pieces_over y v z y' z' m p m' p' h = piece_up y' v z' y m' p' m (subsumes_trans y z z' (piece_within y v z p) h)

-- Of a list of which no entry subsumes another, no piece subsumes another.
pub pieces_of_antichain : (v : Trits) (τ : Entries) → Antichain τ → Antichain (pieces_of v τ)
unfolding pieces_of Antichain
pieces_of_antichain v [] a = tt
pieces_of_antichain v (y ∷ τ) a = go (matches y v) refl (pieces_of_antichain v τ a.1)
  where
    -- a piece of another entry and one of y
    beside : T (matches y v) → (r z : Trits) → PieceOf v τ r → Piece y v z → Neither r z
    beside m r z q p =
        let b = apart_entry y τ a.0 q.y q.entry in (
          λ h. b.1 (pieces_over q.y v r y z q.matched q.piece m p h),
          λ h. b.0 (pieces_over y v z q.y r m p q.matched q.piece h),
        )

    go : (b : Bool) → matches y v ≡ b → Antichain (pieces_of v τ)
        → Antichain (cond b (pieces y v ++ pieces_of v τ) (pieces_of v τ))
    go true e rest =
        let m : T (matches y v) = rw e tt in
        antichain_append (pieces y v) (pieces_of v τ) (pieces_antichain y v m) rest
        (λ r i.
        let q = each_entry (PieceOf v τ) (pieces_of v τ) (pieces_of_are v τ) r i in
        entries_apart r (pieces y v) (λ z j. beside m r z q (each_entry (Piece y v) (pieces y v) (pieces_are y v m) z j)))
    go false e rest = rest
