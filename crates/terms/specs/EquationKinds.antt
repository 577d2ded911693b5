-- An equation x = t as the procedures need it: two sets of variables and a kind (02, request 6).
use Rattle.std.specs.Prelude.{◌≡◌, ℕ, T, length}
use Rattle.model.specs.Terms.{var, variables}
use Rattle.model.specs.Tokens as K
use Rattle.model.specs.Equations as M
use Rattle.words.specs.Words.{set_word}
use Rattle.terms.specs.declared.Kind.{Kind}
use Rattle.terms.specs.declared.Kind.TheVariants.{Itself, Deeper, Plain}
use Rattle.terms.specs.declared.Equation.{Equation}

-- The kind that the enum names.
abbrev pub kind_named : Kind → M.Kind
kind_named Itself = M.itself
kind_named Deeper = M.deeper
kind_named Plain = M.plain

-- Of an equation about X1 to Xl: the set of x alone, the set of t's variables, and how many tokens t has.
pub record Counted (l left right tokens : ℕ) (e : M.Equation) : Type 0 where
  pub named : T (K.named l e.left)
  pub left_set : left ≡ set_word (variables l (var e.left))
  pub right_set : right ≡ set_word (variables l e.right)
  pub count : tokens ≡ length (K.tokens e.right)

-- The code's value tells the two sets and the kind of the equation e.
pub record Told (l : ℕ) (q : Equation) (e : M.Equation) : Type 0 where
  pub left_set : q.left ≡ set_word (variables l (var e.left))
  pub right_set : q.right ≡ set_word (variables l e.right)
  pub same_kind : kind_named q.kind ≡ M.kind e
