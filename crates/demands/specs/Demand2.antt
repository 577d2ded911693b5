-- Demand 2 of the exported calls (01, "Written form" and "Refusals"): which number each returns and where, the groups of the table
-- that it writes, and every byte of its output; and of each question, the word.
use Rattle.std.specs.Prelude.{◌≡◌, Bool, true, false, List, [], ◌∷◌, ◌++◌, map, ◌⊎◌, ◌↔◌, ℕ, ◌≤◌, T, leb, length, take, drop}
use Rattle.model.specs.Groups.{Listed, Joined, Projected}
use Rattle.model.specs.Growth.{limit}
use Rattle.model.specs.Terms.{Term}
use Rattle.model.specs.Tables.{Side, positive, opposite, groups, kept}
use Rattle.model.specs.Tokens.{named}
use Rattle.model.specs.Questions.{Equal, Ground, Independent}
use Rattle.model.specs.Equations.{After}
use Rattle.model.specs.Walk.{Sides}
use Rattle.model.specs.Unification.{AfterSides}
use Rattle.words.specs.Words.{set}
use Rattle.tables.specs.declared.Table.{Table}
use Rattle.tables.specs.declared.Refusal.{Refusal}
use Rattle.tables.specs.declared.Refusal.TheVariants as R
use Rattle.tables.specs.Refusals.{Accepted, Refused}
use Rattle.tables.specs.declared.Answered.{Answered}
use Rattle.tables.specs.Refusals.{refusal_number, member, one_of}
use Rattle.tables.specs.Values.{zero_table, accepts, refuses, good_width, GoodTable}
use Rattle.terms.specs.Checks as C
use Rattle.operations.specs.Operations.{good_keep, convert_call}
use Rattle.operations.specs.Outcomes.{groups_of, Becomes, ConvertEarly, ConvertReady, ConvertNeeds, EquationNeeds, JoinNeeds}
use Rattle.operations.specs.Outcomes.{UnifyNeeds, ProjectionNeeds, ChangeNeeds}
use Rattle.questions.specs.Replies.{Reply}
use Rattle.questions.specs.Replies.{reply_number, reply_word, good_sets}
use Rattle.reasons.specs.Verdicts.{Verdict}
use Rattle.reasons.specs.Verdicts.{verdict_number, verdict_word, x_word, t_word, check_group}
use Rattle.reasons.specs.Statements.{TableWhere, InAfter}
use Rattle.forms.specs.declared.Extent.TheVariants.{Whole, Front}
use Rattle.forms.specs.declared.Layout.{Layout}
use Rattle.forms.specs.declared.Layout.TheVariants.{Plain, Packed}
use Rattle.forms.specs.TableForms.{sized, first_size, second_size, form_length, fits, written_entries, all_well, bad_entry}
use Rattle.forms.specs.TableForms.{form_numbers, read_form, read_table, Passed, form_of}
use Rattle.byte_calls.specs.ByteCalls.{check_bytes, tokens_of, change_side_bytes, equation_bytes, join_bytes}
use Rattle.byte_calls.specs.ByteCalls.{check_both_bytes, unify_bytes, projection_bytes, equal_bytes, ground_bytes}
use Rattle.byte_calls.specs.ByteCalls.{independent_bytes, reason_bytes}
use Rattle.byte_calls.specs.Outputs.{output_number_as, output_bytes_as}

-- ---- What is handed back

-- The output holds the form of the table, plain or packed.
abbrev pub Fits : Layout → Table → List ℕ → Type 0
Fits f u out = form_length f u.l u.n ≤ length out

-- The output, before and after the form of u was written: the form, and past it what it held; it reads as u, with what follows the
-- form and without.
pub record Wrote (f : Layout) (u : Table) (before now : List ℕ) : Type 0 where
  pub bytes : now ≡ form_of f u ++ drop (form_length f u.l u.n) before
  pub reads : read_form f Front now ≡ accepts u
  pub alone : read_form f Whole (take (form_length f u.l u.n) now) ≡ accepts u

-- The law of handing back: where the call's own answer is accepted, 0 exactly where the output holds the form and 9 exactly where
-- it does not, so that no 2, 3 or 4 comes from there; a refusal keeps its number. The form is written at 0, and nothing else.
pub record HandedBack (f : Layout) (a : Answered) (out : List ℕ) : Type 0 where
  pub zero_where : a.answer ≡ Accepted → (output_number_as f a out ≡ 0) ↔ Fits f a.table out
  pub nine_where : a.answer ≡ Accepted → (output_number_as f a out ≡ 9) ↔ ¬ (Fits f a.table out)
  pub refused : (r : Refusal) → a.answer ≡ Refused r → output_number_as f a out ≡ refusal_number r
  pub wrote : output_number_as f a out ≡ 0 → Wrote f a.table out (output_bytes_as f a out)
  pub unwritten : ¬ (output_number_as f a out ≡ 0) → output_bytes_as f a out ≡ out

-- What an exported call that writes a table returns. 0 exactly where it is ready, no list of the growth rule is full and the output
-- holds the form: then the bytes written read as a table with the result. 8 exactly where it is ready and some list needs entry 257. 9
-- exactly where only the output is too short. A number of ns exactly in its condition. No other number; and but for 0 the output
-- holds what it held.
pub record ExportedAs (f : Layout) (ns : List ℕ) (Early : Refusal → Type 0) (Ready : Type 0) (Full : Ready → Type 0)
    (Result : Ready → Table → Type 0) (a : Answered) (out : List ℕ) : Type 0 where
  pub zero_where : (output_number_as f a out ≡ 0) ↔ ((ready : Ready) × ¬ (Full ready) × Fits f a.table out)
  pub eight_where : (output_number_as f a out ≡ 8) ↔ ((ready : Ready) × Full ready)
  pub nine_where : (output_number_as f a out ≡ 9) ↔ ((ready : Ready) × ¬ (Full ready) × ¬ (Fits f a.table out))
  pub early_where : (r : Refusal) → T (one_of ns r) → (output_number_as f a out ≡ refusal_number r) ↔ Early r
  pub no_other : T (member (output_number_as f a out) (0 ∷ 8 ∷ 9 ∷ ns))
  pub result : output_number_as f a out ≡ 0
      → (ready : Ready) × Result ready a.table × Wrote f a.table out (output_bytes_as f a out)
  pub unwritten : ¬ (output_number_as f a out ≡ 0) → output_bytes_as f a out ≡ out

-- The same of a call that writes the plain form.
abbrev pub Exported : (ns : List ℕ) (Early : Refusal → Type 0) (Ready : Type 0) (Full : Ready → Type 0)
    (Result : Ready → Table → Type 0) (a : Answered) (out : List ℕ) → Type 0
Exported ns Early Ready Full Result a out = ExportedAs Plain ns Early Ready Full Result a out

-- ---- Reading

-- The bytes read as the table t.
abbrev pub Reads : List ℕ → Table → Type 0
Reads b t = read_table Whole b ≡ accepts t

-- The bytes do not read, by the refusal r.
abbrev pub Unread : List ℕ → Refusal → Type 0
Unread b r = read_table Whole b ≡ refuses r zero_table

-- The test fails, and x is the refusal that it gives.
abbrev pub Fails : Bool → Refusal → Refusal → Type 0
Fails test x r = (test ≡ false) × (r ≡ x)

-- Each entry is well written: no bit above l and no value without care; or no byte of 243 or more and every unused digit 0.
abbrev pub entries_well : Layout → List ℕ → Bool
entries_well f b = all_well f (first_size b) (second_size b) b

-- The length is what the sizes give.
abbrev pub right_length : Layout → List ℕ → Bool
right_length f b = fits Whole (form_length f (first_size b) (second_size b)) (length b)

-- The first test that a form fails: sizes present (1), 2, 3, length (1), 4 or, packed, 12 by entry.
abbrev pub FormEarly : Layout → List ℕ → Refusal → Type 0
FormEarly f b r =
    Fails (sized b) R.Torn r ⊎ ((sized b ≡ true)
    × (Fails (good_width (first_size b)) R.Width r ⊎ ((good_width (first_size b) ≡ true)
    × (Fails (leb (second_size b) limit) R.Entries r ⊎ ((leb (second_size b) limit ≡ true)
    × (Fails (right_length f b) R.Torn r ⊎ ((right_length f b ≡ true) × Fails (entries_well f b) (bad_entry f) r)))))))

-- A form of one layout, of a table of either side, read and written in another: never 8; the groups are those of the entries
-- written.
abbrev pub FormExported : Layout → Layout → List ℕ → List ℕ → Type 0
FormExported f h b out =
    ExportedAs h (form_numbers f) (FormEarly f b) (Passed f Whole b) (λ _. ⊥)
    (λ _ u. (side : Side)
    → Becomes side (first_size b) (groups side (first_size b) (written_entries f (first_size b) (second_size b) b)) u)
    (read_form f Whole b) out

-- `sharing_read`.
abbrev pub ReadExported : List ℕ → List ℕ → Type 0
ReadExported b out = FormExported Plain Plain b out

-- `sharing_pack`.
abbrev pub PackExported : List ℕ → List ℕ → Type 0
PackExported b out = FormExported Plain Packed b out

-- `sharing_unpack`.
abbrev pub UnpackExported : List ℕ → List ℕ → Type 0
UnpackExported b out = FormExported Packed Plain b out

-- ---- Convert

-- `sharing_convert`: the groups of the row.
abbrev pub ConvertExported : ℕ → List ℕ → List ℕ → Type 0
ConvertExported l ws out =
    Exported (2 ∷ 4 ∷ []) (ConvertEarly l ws) (ConvertReady l ws) (λ _. ConvertNeeds l ws)
    (λ _. Becomes positive l (Listed l (map (set l) ws))) (convert_call l ws) out

-- ---- A call on one table that is read first

-- The reader's refusals; then those of the call on the table that was read.
abbrev pub AfterRead : List ℕ → (Table → Refusal → Type 0) → Refusal → Type 0
AfterRead b Early r = Unread b r ⊎ ((t : Table) × Reads b t × Early t r)

-- The bytes read as a table, with which the call is ready.
pub record ReadAnd (b : List ℕ) (Ready : Table → Type 0) : Type 0 where
  pub table : Table
  pub reads : Reads b table
  pub ready : Ready table

-- `sharing_change_side`: the same groups on the other side.
abbrev pub ChangeExported : Side → List ℕ → List ℕ → Type 0
ChangeExported side b out =
    Exported (1 ∷ 2 ∷ 3 ∷ 4 ∷ []) (Unread b) (ReadAnd b GoodTable) (λ q. ChangeNeeds q.table)
    (λ q. Becomes (opposite side) q.table.l (groups_of side q.table)) (change_side_bytes side b) out

-- The refusals of a term as bytes: 7, 1; then 5 of x, 5 of the tokens, 6.
abbrev pub TermEarly : ℕ → List ℕ → Table → Refusal → Type 0
TermEarly x term t r =
    (check_bytes term ≡ Refused r)
    ⊎ ((check_bytes term ≡ Accepted) × (C.check_equation t.l x (tokens_of term) ≡ C.refuses r))

-- The bytes are the tokens of one whole term, the right side of the equation.
pub record TermReady (x : ℕ) (term : List ℕ) (t : Table) : Type 0 where
  pub passes : check_bytes term ≡ Accepted
  pub right : Term
  pub reads : C.check_equation t.l x (tokens_of term) ≡ C.reads right

-- `sharing_equation`: the groups after the equation, by the binary definition.
abbrev pub EquationExported : Side → List ℕ → ℕ → List ℕ → List ℕ → Type 0
EquationExported side b x term out =
    Exported (1 ∷ 2 ∷ 3 ∷ 4 ∷ 7 ∷ 5 ∷ 6 ∷ []) (AfterRead b (TermEarly x term)) (ReadAnd b (TermReady x term))
    (λ q. EquationNeeds side q.table x q.ready.right)
    (λ q. Becomes side q.table.l (After (record { left = x; right = q.ready.right }) (groups_of side q.table)))
    (equation_bytes side b x term) out

-- The refusals of two terms as bytes: 7, 1, 1; then 5, 6 of the left, 5, 6 of the right.
abbrev pub TermsEarly : List ℕ → List ℕ → Table → Refusal → Type 0
TermsEarly left right t r =
    (check_both_bytes left right ≡ Refused r)
    ⊎ ((check_both_bytes left right ≡ Accepted) × (C.check_sides t.l (tokens_of left) (tokens_of right) ≡ C.refuses r))

-- The bytes are the tokens of two whole terms.
pub record TermsReady (left right : List ℕ) (t : Table) : Type 0 where
  pub passes : check_both_bytes left right ≡ Accepted
  pub sides : Sides
  pub reads : C.check_sides t.l (tokens_of left) (tokens_of right) ≡ C.reads sides

-- `sharing_unify`: the groups after the found equations in order, by the binary definition; none after a clash, which is never
-- full.
abbrev pub UnifyExported : Side → List ℕ → List ℕ → List ℕ → List ℕ → Type 0
UnifyExported side b left right out =
    Exported (1 ∷ 2 ∷ 3 ∷ 4 ∷ 7 ∷ 5 ∷ 6 ∷ []) (AfterRead b (TermsEarly left right)) (ReadAnd b (TermsReady left right))
    (λ q. UnifyNeeds side q.table q.ready.sides)
    (λ q. Becomes side q.table.l (AfterSides q.ready.sides (groups_of side q.table)))
    (unify_bytes side b left right) out

-- `sharing_project`: the projected groups; 11 for a set with no variable or one above l.
abbrev pub ProjectionExported : Side → List ℕ → ℕ → List ℕ → Type 0
ProjectionExported side b keep out =
    Exported (1 ∷ 2 ∷ 3 ∷ 4 ∷ 11 ∷ []) (AfterRead b (λ t. Fails (good_keep t.l keep) R.Keep))
    (ReadAnd b (λ t. good_keep t.l keep ≡ true))
    (λ q. ProjectionNeeds side q.table keep)
    (λ q. Becomes side (kept (set q.table.l keep)) (Projected (set q.table.l keep) (groups_of side q.table)))
    (projection_bytes side b keep) out

-- ---- Join: the first table is read first

-- The second table's refusals; then 10 where the widths differ.
abbrev pub SecondEarly : List ℕ → Table → Refusal → Type 0
SecondEarly c t = AfterRead c (λ u r. ¬ (t.l ≡ u.l) × (r ≡ R.Unlike))

-- The second table reads, with the same width.
abbrev pub SecondReady : List ℕ → Table → Type 0
SecondReady c t = ReadAnd c (λ u. t.l ≡ u.l)

-- `sharing_join`: the union of the groups.
abbrev pub JoinExported : Side → List ℕ → List ℕ → List ℕ → Type 0
JoinExported side b c out =
    Exported (1 ∷ 2 ∷ 3 ∷ 4 ∷ 10 ∷ []) (AfterRead b (SecondEarly c)) (ReadAnd b (SecondReady c))
    (λ q. JoinNeeds side q.table q.ready.table)
    (λ q. Becomes side q.table.l (Joined (groups_of side q.table) (groups_of side q.ready.table)))
    (join_bytes side b c) out

-- ---- Questions

-- What an exported question returns, and the word afterwards. 0 exactly where the question is ready; then the word is 1 exactly
-- where the statement over groups holds, and 0 exactly where it does not. A number of ns exactly in its condition. No other number,
-- so that none meets 8; and but for 0 the word is what it was.
pub record ExportedReply (ns : List ℕ) (Early : Refusal → Type 0) (Ready : Type 0) (Statement : Ready → Type 0)
    (q : Reply) (word : ℕ) : Type 0 where
  pub zero_where : (reply_number q ≡ 0) ↔ Ready
  pub yes_where : (ready : Ready) → (reply_word q word ≡ 1) ↔ Statement ready
  pub no_where : (ready : Ready) → (reply_word q word ≡ 0) ↔ ¬ (Statement ready)
  pub early_where : (r : Refusal) → T (one_of ns r) → (reply_number q ≡ refusal_number r) ↔ Early r
  pub no_other : T (member (reply_number q) (0 ∷ ns))
  pub unwritten : ¬ (reply_number q ≡ 0) → reply_word q word ≡ word

-- `sharing_equal`, of tables of either side.
abbrev pub EqualExported : Side → List ℕ → List ℕ → ℕ → Type 0
EqualExported side b c word =
    ExportedReply (1 ∷ 2 ∷ 3 ∷ 4 ∷ 10 ∷ []) (AfterRead b (SecondEarly c)) (ReadAnd b (SecondReady c))
    (λ q. Equal (groups_of side q.table) (groups_of side q.ready.table)) (equal_bytes b c) word

-- `sharing_ground`: 5 for a variable not 1 to l.
abbrev pub GroundExported : Side → List ℕ → ℕ → ℕ → Type 0
GroundExported side b x word =
    ExportedReply (1 ∷ 2 ∷ 3 ∷ 4 ∷ 5 ∷ []) (AfterRead b (λ t. Fails (named t.l x) R.Name))
    (ReadAnd b (λ t. named t.l x ≡ true))
    (λ q. Ground (groups_of side q.table) x) (ground_bytes side b x) word

-- `sharing_independent`: 5 for a bit above l in either set.
abbrev pub IndependentExported : Side → List ℕ → ℕ → ℕ → ℕ → Type 0
IndependentExported side b first second word =
    ExportedReply (1 ∷ 2 ∷ 3 ∷ 4 ∷ 5 ∷ []) (AfterRead b (λ t. Fails (good_sets t.l first second) R.Name))
    (ReadAnd b (λ t. good_sets t.l first second ≡ true))
    (λ q. Independent (groups_of side q.table) (set q.table.l first) (set q.table.l second))
    (independent_bytes side b first second) word

-- ---- The reason behind a group

-- What the exported call returns, and the three words afterwards. 0 exactly where the call is ready; then each verdict exactly in
-- its condition, and the word is 0 or 1, kept or joined, exactly where s is in the groups after the equation. A number of ns
-- exactly in its condition. No other number, so that none meets 8; and but for 0 the three words are what they were.
pub record ExportedReason (ns : List ℕ) (Early : Refusal → Type 0) (Ready : Type 0) (Condition : Ready → Verdict → Type 0)
    (In : Ready → Type 0) (v : Verdict) (word x_entry t_entry : ℕ) : Type 0 where
  pub zero_where : (verdict_number v ≡ 0) ↔ Ready
  pub each_where : (ready : Ready) (u : Verdict) → (v ≡ u) ↔ Condition ready u
  pub there_where : (ready : Ready) → ((verdict_word v word ≡ 0) ⊎ (verdict_word v word ≡ 1)) ↔ In ready
  pub early_where : (r : Refusal) → T (one_of ns r) → (verdict_number v ≡ refusal_number r) ↔ Early r
  pub no_other : T (member (verdict_number v) (0 ∷ ns))
  pub unwritten : ¬ (verdict_number v ≡ 0)
      → (verdict_word v word ≡ word) × (x_word v x_entry ≡ x_entry) × (t_word v t_entry ≡ t_entry)

-- The refusals of the term as bytes; then 4 for a bit of s above l, 11 for s = 0.
abbrev pub GroupEarly : ℕ → List ℕ → ℕ → Table → Refusal → Type 0
GroupEarly x term s t r = TermEarly x term t r ⊎ (TermReady x term t × (check_group t.l s ≡ Refused r))

-- The bytes are the tokens of one whole term, and s is a group of l variables.
abbrev pub GroupReady : ℕ → List ℕ → ℕ → Table → Type 0
GroupReady x term s t = TermReady x term t × (check_group t.l s ≡ Accepted)

-- `sharing_reason`, of a positive table.
abbrev pub ReasonExported : List ℕ → ℕ → List ℕ → ℕ → ℕ → ℕ → ℕ → Type 0
ReasonExported b x term s word x_entry t_entry =
    ExportedReason (1 ∷ 2 ∷ 3 ∷ 4 ∷ 7 ∷ 5 ∷ 6 ∷ 11 ∷ []) (AfterRead b (GroupEarly x term s)) (ReadAnd b (GroupReady x term s))
    (λ q. TableWhere q.table (record { left = x; right = q.ready.0.right }) s)
    (λ q. InAfter q.table (record { left = x; right = q.ready.0.right }) s) (reason_bytes b x term s) word x_entry t_entry
