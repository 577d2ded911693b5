-- What a reply says of groups: how each question can be answered, and when; and that the replies exclude each other.
use Rattle.std.specs.Prelude.{◌≡◌, true, false, List, [], ◌∷◌, ◌⊎◌, ◌↔◌, ℕ, T}
use Rattle.model.specs.Tables.{Side}
use Rattle.model.specs.Tokens.{named}
use Rattle.model.specs.Questions.{Equal, Ground, Independent}
use Rattle.words.specs.Words.{set}
use Rattle.tables.specs.declared.Table.{Table}
use Rattle.tables.specs.declared.Refusal.{Refusal}
use Rattle.tables.specs.declared.Refusal.TheVariants as R
use Rattle.tables.specs.Refusals as A
use Rattle.tables.specs.Refusals.{one_of}
use Rattle.tables.specs.Values.{check_table, GoodTable}
use Rattle.operations.specs.Outcomes.{groups_of, JoinEarly, JoinReady}
use Rattle.questions.specs.Replies.{Reply}
use Rattle.questions.specs.Replies.{Yes, No, Refused}
use Rattle.questions.specs.Replies.{good_sets, equal_call, ground_call, independent_call}

-- A reply: refused by a number in its condition; else yes exactly where the statement over groups holds.
pub data Replied (Early : Refusal → Type 0) (Ready Statement : Type 0) : Reply → Type 0 where
  early : {r : Refusal} → Early r → Replied Early Ready Statement (Refused r)
  yes : Ready → Statement → Replied Early Ready Statement Yes
  no : Ready → ¬ Statement → Replied Early Ready Statement No

-- The replies exclude each other: yes and no exactly where the question is ready and its statement holds or does not, each
-- refusal exactly in its condition; a refusal has one of the numbers ns, which 8 is not.
pub record ExclusiveReplies (ns : List ℕ) (Early : Refusal → Type 0) (Ready Statement : Type 0) (q : Reply) : Type 0 where
  pub yes_where : (q ≡ Yes) ↔ (Ready × Statement)
  pub no_where : (q ≡ No) ↔ (Ready × ¬ Statement)
  pub refused_where : (r : Refusal) → (q ≡ Refused r) ↔ Early r
  pub numbers : (r : Refusal) → Early r → T (one_of ns r)
  pub never_8 : one_of ns R.Full ≡ false

-- ---- Equal: refused, and ready, as the join is (2, 3, 4 of the first table, of the second, then 10)

-- Two tables, of whichever side, are equal in groups.
abbrev pub EqualReplied : Side → Table → Table → Type 0
EqualReplied side t u =
    Replied (JoinEarly t u) (JoinReady t u) (Equal (groups_of side t) (groups_of side u)) (equal_call t u)

-- The replies exclude each other; the refusals are 2, 3, 4 and 10.
abbrev pub EqualExclusive : Side → Table → Table → Type 0
EqualExclusive side t u =
    ExclusiveReplies (2 ∷ 3 ∷ 4 ∷ 10 ∷ []) (JoinEarly t u) (JoinReady t u) (Equal (groups_of side t) (groups_of side u))
    (equal_call t u)

-- ---- Ground

-- The table's own refusals; then 5 for a variable not 1 to l.
abbrev pub GroundEarly : Table → ℕ → Refusal → Type 0
GroundEarly t x r = (check_table t ≡ A.Refused r) ⊎ (GoodTable t × (named t.l x ≡ false) × (r ≡ R.Name))

-- The table is good, and the variable is 1 to l.
abbrev pub GroundReady : Table → ℕ → Type 0
GroundReady t x = GoodTable t × (named t.l x ≡ true)

-- The variable Xx is ground.
abbrev pub GroundReplied : Side → Table → ℕ → Type 0
GroundReplied side t x =
    Replied (GroundEarly t x) (GroundReady t x) (Ground (groups_of side t) x) (ground_call side t x)

-- The replies exclude each other; the refusals are 2, 3, 4 and 5.
abbrev pub GroundExclusive : Side → Table → ℕ → Type 0
GroundExclusive side t x =
    ExclusiveReplies (2 ∷ 3 ∷ 4 ∷ 5 ∷ []) (GroundEarly t x) (GroundReady t x) (Ground (groups_of side t) x)
    (ground_call side t x)

-- ---- Independent

-- The table's own refusals; then 5 for a bit above l in either set.
abbrev pub IndependentEarly : Table → ℕ → ℕ → Refusal → Type 0
IndependentEarly t a b r = (check_table t ≡ A.Refused r) ⊎ (GoodTable t × (good_sets t.l a b ≡ false) × (r ≡ R.Name))

-- The table is good, and so are the sets.
abbrev pub IndependentReady : Table → ℕ → ℕ → Type 0
IndependentReady t a b = GoodTable t × (good_sets t.l a b ≡ true)

-- Two sets of variables are independent.
abbrev pub IndependentReplied : Side → Table → ℕ → ℕ → Type 0
IndependentReplied side t a b =
    Replied (IndependentEarly t a b) (IndependentReady t a b) (Independent (groups_of side t) (set t.l a) (set t.l b))
    (independent_call side t a b)

-- The replies exclude each other; the refusals are 2, 3, 4 and 5.
abbrev pub IndependentExclusive : Side → Table → ℕ → ℕ → Type 0
IndependentExclusive side t a b =
    ExclusiveReplies (2 ∷ 3 ∷ 4 ∷ 5 ∷ []) (IndependentEarly t a b) (IndependentReady t a b)
    (Independent (groups_of side t) (set t.l a) (set t.l b)) (independent_call side t a b)
