-- A contract of a public call rests on this: taking tokens from the front of a list, one at a time.
use Rattle.std.specs.Prelude.{ℕ, zero, suc, Bool, not, ◌&&◌, List, [], ◌∷◌, Option, Some, None, codes}
use Rattle.std.specs.Prelude.{bytes_eq, if◌then◌else◌}
use Rattle.java_tree.specs.declared.words.Spelled.{Spelled}
use Rattle.java_tree.specs.Brackets.{is_sign_kind, is_sign, is_name_kind, is_keyword}

infixl 10 ◌>>=◌
abbrev pub ◌>>=◌ : {A B : Type 0} → Option A → (A → Option B) → Option B
(Some x) >>= f = f x
None >>= f = None

abbrev pub match_option : {A B : Type 0} → Option A → B → (A → B) → B
match_option None b f = b
match_option (Some a) b f = f a

abbrev pub match_number : {A : Type 0} → ℕ → A → (ℕ → A) → A
match_number zero a f = a
match_number (suc n) a f = f n

-- the tokens behind this sign, where it stands in front and is glued to nothing
abbrev pub after_sign : List ℕ → List Spelled → Option (List Spelled)
after_sign text [] = None
after_sign text (t ∷ ts) = if is_sign text t then Some ts else None

-- the tokens behind this keyword
abbrev pub after_keyword : List ℕ → List Spelled → Option (List Spelled)
after_keyword text [] = None
after_keyword text (t ∷ ts) = if is_keyword text t then Some ts else None

-- a name and the tokens behind it
abbrev pub after_name : List Spelled → Option (List ℕ × List Spelled)
after_name [] = None
after_name (t ∷ ts) = if is_name_kind t.kind && not t.glued then Some (t.text, ts) else None

-- whether a `>` that closes type arguments is glued, and the tokens behind it
abbrev pub after_angle : List Spelled → Option (Bool × List Spelled)
after_angle [] = None
after_angle (t ∷ ts) = if is_sign_kind t.kind && bytes_eq t.text (codes ">") then Some (t.glued, ts) else None

-- the tokens behind a `>` that is glued to the one before it
abbrev pub after_glued : List Spelled → Option (List Spelled)
after_glued [] = None
after_glued (t ∷ ts) = if is_sign_kind t.kind && (t.glued && bytes_eq t.text (codes ">")) then Some ts else None

-- what is read behind each comma, as long as commas come, at most m times
unfoldable pub commas : {A : Type 0} → (List Spelled → Option (A × List Spelled)) → ℕ → List Spelled → Option (List A
    × List Spelled)
commas read zero ts = Some ([], ts)
commas read (suc m) ts = match_option (after_sign (codes ",") ts) (Some ([], ts)) (λ r. do
  first ← read r
  others ← commas read m first.1
  Some (first.0 ∷ others.0, others.1))
