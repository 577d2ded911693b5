-- Where two sides passed their checks, their walk starts at the front of both rows. Assumes nothing.
use mathlib.Core.Path.{◌≡◌, refl, sym, ap, ◌∙◌}
use mathlib.Core.Bool.{Bool, true, false, cond}
use mathlib.Core.List.{List, [], ◌∷◌, append-nil}
use mathlib.Core.Option.{some, none}
use Prim.Native.Nat.{ℕ, suc, ◌+◌, ◌^◌, ◌≤◌, ◌<◌}
use native.Mathlib.Omega.{arith}
use lib.Dec.{leb}
use lib.ListN.{length, get_or}
use Rattle.model.specs.Growth.{◌>>=◌}
use Rattle.model.specs.Terms.{Term, nil, cons, arity}
use Rattle.model.specs.Tokens.{Tokens, WritableRow, tokens, tokens_row}
use Rattle.model.specs.Walk.{Sides, Walked, both, walk, walk_row, walk_sides}
use Rattle.model.proofs.Reader.{whole_exact}
use Rattle.tables.specs.declared.Refusal.TheVariants as R
use Rattle.terms.specs.Checks.{Outcome, reads, refuses, if_read, check_term, most_tokens, check_sides}
use Rattle.terms.proofs.Checking.{read_whole}
use Rattle.walks.specs.Cursors.{Rest}

-- The elements of a slice of 16-bit numbers are tokens.
pub all_tokens : (s : List ℕ) → ((i : ℕ) → get_or s i 0 < 2 ^ 16) → Tokens s
unfolding Tokens
all_tokens [] h = tt
all_tokens (t ∷ s) h = (h 0, all_tokens s (λ i. h (suc i)))

-- both sides passed their checks
both_read : (l : ℕ) (ss ts : List ℕ) (s : Sides) → check_sides l ss ts ≡ reads s
    → (check_term l ss ≡ reads s.left) × (check_term l ts ≡ reads s.right)
unfolding check_sides if_read
both_read l ss ts s e = go (leb (length ss + length ts) most_tokens) (check_term l ss) (check_term l ts) e
  where
    go : (b : Bool) (o p : Outcome Term)
        → cond {A = Outcome Sides} b
        (if_read o refuses (λ s. if_read p refuses (λ t. reads (record { left = s; right = t })))) (refuses R.Long) ≡ reads s
        → (o ≡ reads s.left) × (p ≡ reads s.right)
    go true (reads u) (reads v) e = (cc, cc)
    go true (reads u) (refuses r) e = absurd (let z : ◌≡◌ {A = ℕ} 0 1 = cc in omega arith)
    go true (refuses r) p e = absurd (let z : ◌≡◌ {A = ℕ} 0 1 = cc in omega arith)
    go false o p e = absurd (let z : ◌≡◌ {A = ℕ} 0 1 = cc in omega arith)

-- a walk and then nothing
both_end : (o : Walked) → both o (some []) ≡ o
unfolding both ◌>>=◌
both_end none = refl
both_end (some es) = ap some (append-nil es)

-- The walk of two sides that were read starts.
pub sides_start : (l : ℕ) (left right : List ℕ) (s : Sides) → l ≤ 32 → Tokens left → Tokens right
    → check_sides l left right ≡ reads s
    → Rest l left right 0 0 (walk_sides s)
unfolding tokens_row WritableRow arity walk_row
sides_start l left right s few v w e =
    let p = both_read l left right s e in
    let a = (whole_exact l left s.left v).0 (read_whole l left s.left p.0) in
    let b = (whole_exact l right s.right w).0 (read_whole l right s.right p.1) in
    record {
      few = few;
      ss = cons s.left nil;
      ts = cons s.right nil;
      left_is = a.1 ∙ sym (append-nil (tokens s.left));
      right_is = b.1 ∙ sym (append-nil (tokens s.right));
      left_writable = (a.0, tt);
      right_writable = (b.0, tt);
      same = refl;
      walks = both_end (walk s.left s.right);
    }
