-- The two words stand at their places among the n cares and the n values, which are all within the bytes.
use Prim.Native.Nat.{ℕ, ◌+◌, ◌*◌, ◌≤◌}
use native.Mathlib.Omega.{arith}
use lib.ListN.{length}
use Rattle.codec.specs.Numbers.{WordSize}
use Rattle.codec.proofs.Rows.{row_in}
use Rattle.forms.proofs.WordLengths.{two_or_four, words_most, words_room}
use Rattle.forms.proofs.Decoding.{entry_read}
use borrow.Author.Rules.{rules}
use Rattle.forms.proofs.entries.entry_at.Goals as goal
use Rattle.forms.proofs.entries.entry_at.Goals.{After-word_length-k}

abbrev size : After-word_length-k → ℕ
size c = c.word_length-k.result

-- two bytes or four
sized : (c : After-word_length-k) → WordSize (size c)
sized c = two_or_four c.args.l c.word_length-k.ensures

-- the word at i is among the n words, which have at most 1024 bytes; and twice as many are there
within : (c : After-word_length-k) → let a = c.args in
    let all = size c * a.n in
    (size c * a.i + size c ≤ all) × (all ≤ 1024) × (4 + 2 * all ≤ length a.b.now)
within c =
    let a = c.args in
    let e = c.word_length-k.ensures in (
      row_in (size c) a.n a.i c.requires.0,
      words_most a.l e c.requires.1,
      words_room a.l a.n e c.requires.2,
    )

pub overflow_mul-at : goal.overflow_mul-at
overflow_mul-at c = let w = within (goal.at.overflow_mul-at c).After-word_length-k in search (rules, w)

pub overflow_add-at : goal.overflow_add-at
overflow_add-at c = let w = within (goal.at.overflow_add-at c).After-word_length-k in search (rules, w)

pub word_at-c-requires : goal.word_at-c-requires
word_at-c-requires c =
    let w = within (goal.at.word_at-c-requires c).After-word_length-k in
    (sized (goal.at.word_at-c-requires c).After-word_length-k, omega (arith, w))

pub word_at-v-requires : goal.word_at-v-requires
word_at-v-requires c =
    let w = within (goal.at.word_at-v-requires c).After-word_length-k in
    (sized (goal.at.word_at-v-requires c).After-word_length-k, omega (arith, w))

pub returns : goal.returns
returns c =
    let a = c.args in
    entry_read a.l a.n a.b.now a.i c.requires.0 c.word_length-k.ensures
    c.word_at-c.ensures c.word_at-v.ensures
