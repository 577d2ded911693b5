-- The walk goes on: what is left of both rows, one step at a time. Assumes nothing.
use mathlib.Core.Path.{◌≡◌, refl, sym, ap, ap₂, ◌∙◌}
use mathlib.Core.Bool.{Bool, true, false, ◌&&◌, cond}
use mathlib.Core.List.{List, [], ◌++◌, append_assoc, append-nil}
use mathlib.Core.Option.{some, none}
use Prim.Native.Nat.{ℕ, ◌+◌, ◌-◌, ◌*◌, ◌≤◌, ◌<◌}
use native.Mathlib.Nat.{suc_inj, suc-ne-zero}
use native.Mathlib.Omega.{arith}
use lib.Dec.{T, eqb, eqb→eq, eqb_refl}
use lib.ListN.{length, get_or, drop, length-append, length-drop}
use lib.Seq.{drop-drop, drop-append_seam}
use Rattle.model.specs.Growth.{◌>>=◌}
use Rattle.model.specs.Terms.{Term, Terms, var, head, nil, cons, arity, variables}
use Rattle.model.specs.Tokens.{first_head, arities, Writable, WritableRow, tokens, tokens_row}
use Rattle.model.specs.Equations.{Equation}
use Rattle.model.specs.Walk.{Walked, both, walk, walk_row}
use Rattle.model.proofs.Tests.{true_of}
use Rattle.words.specs.Words.{set_word}
use Rattle.terms.specs.declared.Equation as E
use Rattle.terms.specs.Checks.{word_of}
use Rattle.terms.specs.EquationKinds.{Counted, Told}
use Rattle.terms.proofs.EquationKinds.{bit_of, bit_word}
use Rattle.walks.specs.declared.Found.{Found}
use Rattle.walks.specs.declared.Found.TheVariants as F
use Rattle.walks.specs.Cursors.{Across, Rest, found, Onward, Next, at_end, at_clash, at_equation}
use Rattle.walks.proofs.Passing.{join, tokens_join, writable_join, arity_join, term_tokens, term_word, First, first}
use Rattle.walks.proofs.Passing.{left_start, left_bit}

-- ---- Walks one after another

both_none : (o : Walked) → both (some []) o ≡ o
unfolding both ◌>>=◌
both_none none = refl
both_none (some es) = refl

both_assoc : (o p q : Walked) → both (both o p) q ≡ both o (both p q)
unfolding both ◌>>=◌
both_assoc none p q = refl
both_assoc (some es) none q = refl
both_assoc (some es) (some fs) none = refl
both_assoc (some es) (some fs) (some gs) = ap some (append_assoc es fs gs)

-- rows of as many terms are walked before what follows them
walk_join : (us vs ss ts : Terms) → arity us ≡ arity vs
    → walk_row (join us ss) (join vs ts) ≡ both (walk_row us vs) (walk_row ss ts)
unfolding walk_row join arity
walk_join nil nil ss ts e = sym (both_none (walk_row ss ts))
walk_join nil (cons v vs) ss ts e = absurd (suc-ne-zero _ (sym e))
walk_join (cons u us) nil ss ts e = absurd (suc-ne-zero _ e)
walk_join (cons u us) (cons v vs) ss ts e =
    ap (both (walk u v)) (walk_join us vs ss ts (suc_inj e))
    ∙ sym (both_assoc (walk u v) (walk_row us vs) (walk_row ss ts))

-- ---- A term that stands at a cursor

-- it is a row of one term
one_row : (l : ℕ) (s : List ℕ) (i : ℕ) (t : Term) (r : List ℕ) → l ≤ 32 → drop i s ≡ tokens t ++ r → Writable l t
    → Across l s i 1 (i + length (tokens t)) (word_of (tokens t))
unfolding tokens_row WritableRow arity
one_row l s i t r few p w = record {
  few = few;
  terms = cons t nil;
  after = r;
  is = rw append-nil p;
  writable = (w, tt);
  count = refl;
  end = rw append-nil refl;
  set = rw append-nil refl;
}

-- what passes over one term tells the end e and the set y
abbrev pub Passes : List ℕ → ℕ → ℕ → ℕ → Type 0
Passes s i e y = (l e' w : ℕ) → Across l s i 1 e' w → (e ≡ e') × (y ≡ w)

-- they are those of that term
record Stood (l : ℕ) (s : List ℕ) (i : ℕ) (t : Term) (r : List ℕ) (e y : ℕ) : Type 0 where
  set : y ≡ set_word (variables l t)
  count : e - i ≡ length (tokens t)
  further : i < e
  inside : e ≤ length s
  rest : drop e s ≡ r

stood : (l : ℕ) (s : List ℕ) (i : ℕ) (t : Term) (r : List ℕ) (e y : ℕ) → l ≤ 32 → drop i s ≡ tokens t ++ r → Writable l t
    → Passes s i e y
    → Stood l s i t r e y
unfolding variables
stood l s i t r e y few p w only = record {
  set = told.1 ∙ term_word l t w;
  count = omega (arith, told.0);
  further = omega (arith, told.0, term_tokens t);
  inside = omega (arith, told.0, term_tokens t, length-append (tokens t) r, sym (ap length p) ∙ length-drop i s);
  rest =
      rw told.0
      (sym (drop-drop (length (tokens t)) i s) ∙ ap (drop (length (tokens t))) p ∙ drop-append_seam (tokens t) r);
}
  where
    told : (e ≡ i + length (tokens t)) × (y ≡ word_of (tokens t))
    told = only l (i + length (tokens t)) (word_of (tokens t)) (one_row l s i t r few p w)

-- what tells the kind of the equation of these sets and so many tokens
abbrev pub Tells : ℕ → ℕ → ℕ → E.Equation → Type 0
Tells left right count q = (l : ℕ) (e : Equation) → Counted l left right count e → Told l q e

-- ---- The step at two cursors

-- a term stands at each cursor, and the walk goes on with the rows after them
record Fronts (l : ℕ) (left right : List ℕ) (i j : ℕ) (o : Walked) : Type 0 where
  s : Term
  t : Term
  ss : Terms
  ts : Terms
  left_is : drop i left ≡ tokens s ++ tokens_row ss
  right_is : drop j right ≡ tokens t ++ tokens_row ts
  left_writable : Writable l s × WritableRow l ss
  right_writable : Writable l t × WritableRow l ts
  same : arity ss ≡ arity ts
  walks : both (walk s t) (walk_row ss ts) ≡ o

-- they are two heads
record Heads (l : ℕ) (left right : List ℕ) (i j : ℕ) (o : Walked) : Type 0 where
  f : ℕ
  us : Terms
  g : ℕ
  vs : Terms
  ss : Terms
  ts : Terms
  left_at : First left i (first_head + f * arities + arity us) (tokens_row us ++ tokens_row ss)
  right_at : First right j (first_head + g * arities + arity vs) (tokens_row vs ++ tokens_row ts)
  left_writable : Writable l (head f us) × WritableRow l ss
  right_writable : Writable l (head g vs) × WritableRow l ts
  same : arity ss ≡ arity ts
  walks : both (walk (head f us) (head g vs)) (walk_row ss ts) ≡ o

module _ {l : ℕ} {left right : List ℕ} {i j : ℕ} {o : Walked} (r : Rest l left right i j o) where
  -- both rows are at their end
  pub next_end : length left ≤ i → Next l left right i j o F.End
  unfolding tokens_row arity walk_row
  next_end h = go r.ss r.ts r.left_is r.same r.walks
    where
      go : (ss ts : Terms) → drop i left ≡ tokens_row ss → arity ss ≡ arity ts → walk_row ss ts ≡ o
          → Next l left right i j o F.End
      go nil nil p e k = at_end (sym k)
      go nil (cons t ts) p e k = absurd (suc-ne-zero _ (sym e))
      go (cons s ss) ts p e k = absurd
          (omega (arith, term_tokens s, length-append (tokens s) (tokens_row ss), sym (ap length p) ∙ length-drop i left))

  module _ (h : i < length left) where
    fronts : Fronts l left right i j o
    unfolding tokens_row WritableRow arity walk_row
    fronts = go r.ss r.ts r.left_is r.right_is r.left_writable r.right_writable r.same r.walks
      where
        go : (ss ts : Terms) → drop i left ≡ tokens_row ss → drop j right ≡ tokens_row ts → WritableRow l ss
            → WritableRow l ts
            → arity ss ≡ arity ts
            → walk_row ss ts ≡ o
            → Fronts l left right i j o
        go nil ts p q v w e k = absurd (omega (arith, sym (ap length p) ∙ length-drop i left))
        go (cons s ss) nil p q v w e k = absurd (suc-ne-zero _ e)
        go (cons s ss) (cons t ts) p q v w e k = record {
          s = s;
          t = t;
          ss = ss;
          ts = ts;
          left_is = p;
          right_is = q;
          left_writable = v;
          right_writable = w;
          same = suc_inj e;
          walks = k;
        }

    -- where the left row goes on, so does the right one
    pub rest_inside : j < length right
    rest_inside =
        let f = fronts in
        omega (
          arith,
          term_tokens f.t,
          length-append (tokens f.t) (tokens_row f.ts),
          sym (ap length f.right_is) ∙ length-drop j right,
        )

    -- a whole term stands at each cursor
    pub term_left : (l : ℕ) × (e : ℕ) × (w : ℕ) × Across l left i 1 e w
    term_left =
        let f = fronts in
        (l, _, _, one_row l left i f.s (tokens_row f.ss) r.few f.left_is f.left_writable.0)

    pub term_right : (l : ℕ) × (e : ℕ) × (w : ℕ) × Across l right j 1 e w
    term_right =
        let f = fronts in
        (l, _, _, one_row l right j f.t (tokens_row f.ts) r.few f.right_is f.right_writable.0)

    -- and ends further on
    pub past_left : {e y : ℕ} → Passes left i e y → i ≤ e
    past_left only = let t = term_left in omega (arith, (only _ _ _ t.3).0, t.3.end)

    pub past_right : {e y : ℕ} → Passes right j e y → j ≤ e
    past_right only = let t = term_right in omega (arith, (only _ _ _ t.3).0, t.3.end)

    -- a variable at a cursor has its bit in a word
    pub bit_left : get_or left i 0 < first_head → (0 < get_or left i 0) × (get_or left i 0 - 1 < 32)
    bit_left v = left_bit (left_start term_left.3) (omega arith) v

    pub bit_right : get_or right j 0 < first_head → (0 < get_or right j 0) × (get_or right j 0 - 1 < 32)
    bit_right v = left_bit (left_start term_right.3) (omega arith) v

    -- what is left past the two terms at the cursors
    past : (f : Fronts l left right i j o) {a b : ℕ} → drop a left ≡ tokens_row f.ss → drop b right ≡ tokens_row f.ts
        → Rest l left right a b (walk_row f.ss f.ts)
    past f p q = record {
      few = r.few;
      ss = f.ss;
      ts = f.ts;
      left_is = p;
      right_is = q;
      left_writable = f.left_writable.1;
      right_writable = f.right_writable.1;
      same = f.same;
      walks = refl;
    }

    -- a variable on the left, and what passes over the term across
    pub next_left : (e y : ℕ) (q : E.Equation) → get_or left i 0 < first_head → Passes right j e y
        → Tells (bit_of (get_or left i 0)) y (e - j) q
        → Next l left right i j o (F.Equation q (i + 1) e)
    unfolding tokens Writable walk both found ◌>>=◌
    next_left e y q v only tells = let f = fronts in go f f.s f.left_is f.left_writable.0 f.walks
      where
        go : (f : Fronts l left right i j o) (s : Term) → drop i left ≡ tokens s ++ tokens_row f.ss → Writable l s
            → both (walk s f.t) (walk_row f.ss f.ts) ≡ o
            → Next l left right i j o (F.Equation q (i + 1) e)
        go f (head g us) p w k = absurd (omega (arith, (first left i _ _ p).token))
        go f (var x) p w k =
            let at = first left i x (tokens_row f.ss) p in
            let st = stood l right j f.t (tokens_row f.ts) e y r.few f.right_is f.right_writable.0 only in
            at_equation {a = i + 1} {b = e} (record { left = x; right = f.t }) (walk_row f.ss f.ts)
            (tells l _ (record {
              named = w.1;
              left_set = rw at.token (bit_word l x r.few w.1);
              right_set = st.set;
              count = st.count;
            }))
            (record { further = omega (arith, st.further); inside = (omega (arith, at.inside), st.inside) })
            (past f at.rest st.rest) (sym k)

    module _ (u : first_head ≤ get_or left i 0) where
      -- a head on the left and a variable on the right
      pub next_right : (e y : ℕ) (q : E.Equation) → get_or right j 0 < first_head → Passes left i e y
          → Tells (bit_of (get_or right j 0)) y (e - i) q
          → Next l left right i j o (F.Equation q e (j + 1))
      unfolding tokens Writable walk both found ◌>>=◌
      next_right e y q v only tells =
          let f = fronts in
          go f f.s f.t f.left_is f.right_is f.left_writable.0 f.right_writable.0 f.walks
        where
          go : (f : Fronts l left right i j o) (s t : Term) → drop i left ≡ tokens s ++ tokens_row f.ss
              → drop j right ≡ tokens t ++ tokens_row f.ts
              → Writable l s
              → Writable l t
              → both (walk s t) (walk_row f.ss f.ts) ≡ o
              → Next l left right i j o (F.Equation q e (j + 1))
          go f (var x) t p d z w k = absurd (omega (arith, (first left i _ _ p).token, z.0))
          go f (head g us) (head m vs) p d z w k = absurd (omega (arith, (first right j _ _ d).token))
          go f (head g us) (var x) p d z w k =
              let at = first right j x (tokens_row f.ts) d in
              let st = stood l left i (head g us) (tokens_row f.ss) e y r.few p z only in
              at_equation {a = e} {b = j + 1} (record { left = x; right = head g us }) (walk_row f.ss f.ts)
              (tells l _ (record {
                named = w.1;
                left_set = rw at.token (bit_word l x r.few w.1);
                right_set = st.set;
                count = st.count;
              }))
              (record { further = omega (arith, st.further); inside = (st.inside, omega (arith, at.inside)) })
              (past f st.rest at.rest) (sym k)

      -- two heads: equal ones go down, and others clash
      module _ (v : first_head ≤ get_or right j 0) where
        heads : Heads l left right i j o
        unfolding tokens Writable
        heads =
            let f = fronts in
            go f f.s f.t f.left_is f.right_is f.left_writable.0 f.right_writable.0 f.walks
          where
            go : (f : Fronts l left right i j o) (s t : Term) → drop i left ≡ tokens s ++ tokens_row f.ss
                → drop j right ≡ tokens t ++ tokens_row f.ts
                → Writable l s
                → Writable l t
                → both (walk s t) (walk_row f.ss f.ts) ≡ o
                → Heads l left right i j o
            go f (var x) t p q y w k = absurd (omega (arith, (first left i _ _ p).token, y.0))
            go f (head n us) (var x) p q y w k = absurd (omega (arith, (first right j _ _ q).token, w.0))
            go f (head n us) (head m vs) p q y w k = record {
              f = n;
              us = us;
              g = m;
              vs = vs;
              ss = f.ss;
              ts = f.ts;
              left_at = first left i _ _ p;
              right_at = first right j _ _ q;
              left_writable = (y, f.left_writable.1);
              right_writable = (w, f.right_writable.1);
              same = f.same;
              walks = k;
            }

        pub next_clash : ¬ (get_or left i 0 ≡ get_or right j 0) → Next l left right i j o F.Clash
        unfolding walk both ◌>>=◌
        next_clash n =
            let a = heads in
            go a (eqb a.f a.g) (eqb (arity a.us) (arity a.vs)) (eqb→eq _ _) (eqb→eq _ _) a.walks
          where
            go : (a : Heads l left right i j o) (b c : Bool) → (T b → a.f ≡ a.g) → (T c → arity a.us ≡ arity a.vs)
                → both (cond (b && c) (walk_row a.us a.vs) none) (walk_row a.ss a.ts) ≡ o
                → Next l left right i j o F.Clash
            go a true true p q k = absurd (n (a.left_at.token ∙ rw (p tt, q tt) (sym a.right_at.token)))
            go a true false p q k = at_clash (sym k)
            go a false c p q k = at_clash (sym k)

        pub rest_down : get_or left i 0 ≡ get_or right j 0 → Rest l left right (i + 1) (j + 1) o
        unfolding walk Writable
        rest_down e =
            let a = heads in
            let sum : a.f * arities + arity a.us ≡ a.g * arities + arity a.vs =
            omega (arith, sym a.left_at.token ∙ e ∙ a.right_at.token) in
            let symbol : a.f ≡ a.g = omega (arith, a.left_writable.0.1, a.right_writable.0.1) in
            let count : arity a.us ≡ arity a.vs = omega arith in
            let f_is : eqb a.f a.g ≡ true = rw symbol (true_of _ (eqb_refl a.g)) in
            let c_is : eqb (arity a.us) (arity a.vs) ≡ true = rw count (true_of _ (eqb_refl (arity a.vs))) in
            record {
              few = r.few;
              ss = join a.us a.ss;
              ts = join a.vs a.ts;
              left_is = a.left_at.rest ∙ sym (tokens_join a.us a.ss);
              right_is = a.right_at.rest ∙ sym (tokens_join a.vs a.ts);
              left_writable = writable_join l a.us a.ss a.left_writable.0.2 a.left_writable.1;
              right_writable = writable_join l a.vs a.ts a.right_writable.0.2 a.right_writable.1;
              same = arity_join a.us a.ss ∙ ap₂ ◌+◌ count a.same ∙ sym (arity_join a.vs a.ts);
              walks = walk_join a.us a.vs a.ss a.ts count ∙ (rw (f_is, c_is) at a.walks);
            }

-- what is found from later cursors is found from earlier ones
onward_from : {left right : List ℕ} {i j i' j' a b : ℕ} → i + j ≤ i' + j' → Onward left right i' j' a b
    → Onward left right i j a b
onward_from p w = record { further = omega (arith, w.further); inside = w.inside }

pub next_from : {l : ℕ} {left right : List ℕ} {i j i' j' : ℕ} {o : Walked} {r : Found} → i + j ≤ i' + j'
    → Next l left right i' j' o r
    → Next l left right i j o r
next_from p (at_end e) = at_end e
next_from p (at_clash e) = at_clash e
next_from p (at_equation e o t w r k) = at_equation e o t (onward_from p w) r k
