-- A loop that keeps what holds of every choice of a value, and needs that there is one. Assumes nothing.

module _ {X : Type 0} where
  -- There is an x of which A holds; and it holds of any of which B, at the start of the loop, did.
  abbrev pub Kept : (X → Type 0) → (X → Type 0) → Type 0
  Kept B A = ((x : X) × A x) × ((x : X) → B x → A x)

  pub keeps : {A B C : X → Type 0} → Kept B A → ((x : X) → A x → C x) → Kept B C
  keeps k f = ((k.0.0, f k.0.0 k.0.1), λ x b. f x (k.1 x b))
