-- Rows of statements can be read: a sign ends each expression, and no keyword that goes on with a statement stands
-- behind one.
use Rattle.std.proofs.Common.{◌≡◌, ℕ, Bool, true, false, not, ◌&&◌, ◌||◌, cond, List, [], ◌∷◌, Some, None, codes, suc}
use Rattle.std.proofs.Common.{refl, sym, ap, subst}
use Rattle.std.specs.Prelude.{bytes_eq}
use Rattle.std.specs.Cmp.Lexicographic.{bytes_decides}
use Rattle.std.proofs.lemmas.Bool.{and_parts, or_right}
use Rattle.java_tree.specs.declared.words.Spelled.{Spelled}
use Rattle.java_tree.specs.Words.{keyword, sign}
use Rattle.java_tree.specs.Trees.{Stmt, Pieces, no_piece, a_token, an_expr, maybe_an_expr, maybe_a_name, maybe_behind}
use Rattle.java_tree.specs.Trees.{a_condition, a_body, a_block, maybe_resources, a_catch_parameter, a_list, present}
use Rattle.java_tree.specs.Trees.{absent, some_part, a_switch, Several, no_row, row_then, Groups, no_group}
use Rattle.java_tree.specs.Trees.{group_then}
use Rattle.java_tree.specs.Spelling.{pieces_onto}
use Rattle.java_tree.specs.Formed.{Fits, goes_on, go_on, is_joining, are_left_out}
use Rattle.java_tree.specs.Rows.{AKeyword, ASign, AnExpr, Until, MaybeName, MaybeBehind, ACondition, ABody, ABlock}
use Rattle.java_tree.specs.Rows.{ASwitch, MaybeResources, ACatchParameter, Again, Perhaps, SomePart, Slots, no_slot}
use Rattle.java_tree.specs.Rows.{◌▹◌, rows, find_row, is_row, row_of}
use Rattle.java_parser_grammar.specs.Taking.{after_sign, after_keyword, after_name}
use Rattle.racer_base.proofs.Tests.{bytes_same}

-- ---- one token in front

pub keyword_front : (text : List ℕ) (r : List Spelled) → after_keyword text (keyword text ∷ r) ≡ Some r
keyword_front text r = rw (bytes_same text) refl

pub sign_front : (text : List ℕ) (r : List Spelled) → after_sign text (sign text ∷ r) ≡ Some r
sign_front text r = rw (bytes_same text) refl

not_keyword : (text other : List ℕ) (r : List Spelled) → not (bytes_eq text other) ≡ true
    → after_keyword other (keyword text ∷ r) ≡ None
not_keyword text other r h = by_test (bytes_eq text other) h where
  by_test : (b : Bool) → not b ≡ true → cond b (Some r) None ≡ None
  by_test false e = refl
  by_test true e = absurd cc

not_sign : (text other : List ℕ) (r : List Spelled) → not (bytes_eq text other) ≡ true
    → after_sign other (sign text ∷ r) ≡ None
not_sign text other r h = by_test (bytes_eq text other) h where
  by_test : (b : Bool) → not b ≡ true → cond b (Some r) None ≡ None
  by_test false e = refl
  by_test true e = absurd cc

-- ---- rows that can be read

-- a sign behind an expression
abbrev pub ends_with : List ℕ → Bool
ends_with text = bytes_eq text (codes ")") || (bytes_eq text (codes ";") || bytes_eq text (codes ":"))

abbrev pub ends_expr : Slots → Bool
ends_expr (ASign text ▹ row) = ends_with text
ends_expr (MaybeBehind text ▹ row) = ends_with text && ends_expr row
ends_expr _ = false

abbrev pub ends_until : List ℕ → Slots → Bool
ends_until end (ASign text ▹ row) = bytes_eq end text && bytes_eq end (codes ";")
ends_until end _ = false

-- no name stands in front
abbrev pub lacks_name : Slots → Bool
lacks_name (AKeyword text ▹ row) = true
lacks_name (ASign text ▹ row) = true
lacks_name _ = false

-- this sign does not stand in front
abbrev pub lacks_sign : List ℕ → Slots → Bool
lacks_sign text (ASign other ▹ row) = not (bytes_eq other text)
lacks_sign text (ABlock ▹ row) = not (bytes_eq (codes "{") text)
lacks_sign text _ = false

-- no keyword that goes on with a statement may stand behind one
abbrev pub ends_body : Slots → Bool
ends_body no_slot = true
ends_body (AKeyword text ▹ row) = not (is_joining text)
ends_body (ASign text ▹ row) = true
ends_body _ = false

-- this keyword does not stand behind the rows that begin with it
abbrev pub ends_again : List ℕ → Slots → Bool
ends_again word no_slot = true
ends_again word (AKeyword text ▹ row) = not (bytes_eq text word)
ends_again word (ASign text ▹ row) = true
ends_again word (Perhaps other sub ▹ row) = not (bytes_eq other word) && ends_again word row
ends_again word _ = false

-- nothing goes on with what ends here
abbrev pub is_closed : Slots → Bool
is_closed no_slot = true
is_closed (ABody ▹ row) = false
is_closed (Again word sub ▹ row) = false
is_closed (Perhaps word sub ▹ row) = false
is_closed (_ ▹ row) = is_closed row

abbrev pub is_readable : Slots → Bool
is_readable no_slot = true
is_readable (AKeyword text ▹ row) = is_readable row
is_readable (ASign text ▹ row) = is_readable row
is_readable (AnExpr ▹ row) = ends_expr row && is_readable row
is_readable (Until end ▹ row) = ends_until end row && is_readable row
is_readable (MaybeName ▹ row) = lacks_name row && is_readable row
is_readable (MaybeBehind text ▹ row) = (ends_expr row && lacks_sign text row) && is_readable row
is_readable (ACondition ▹ row) = is_readable row
is_readable (ABody ▹ row) = ends_body row && is_readable row
is_readable (ABlock ▹ row) = is_readable row
is_readable (ASwitch ▹ row) = is_readable row
is_readable (MaybeResources ▹ row) = lacks_sign (codes "(") row && is_readable row
is_readable (ACatchParameter ▹ row) = is_readable row
is_readable (Again word sub ▹ row) =
    is_joining word && (is_readable sub && (is_closed sub && (ends_again word row && is_readable row)))
is_readable (Perhaps word sub ▹ row) =
    is_joining word && (is_readable sub && (is_closed sub && (ends_again word row && is_readable row)))
is_readable (SomePart ▹ row) = is_readable row

-- what rows behind a keyword have
pub record Keyed (word : List ℕ) (sub row : Slots) : Type 0 where
  pub joins : is_joining word ≡ true
  pub own : is_readable sub ≡ true
  pub closed : is_closed sub ≡ true
  pub ends : ends_again word row ≡ true
  pub others : is_readable row ≡ true

pub keyed : (word : List ℕ) (sub row : Slots)
    → (is_joining word && (is_readable sub && (is_closed sub && (ends_again word row && is_readable row)))) ≡ true
    → Keyed word sub row
keyed word sub row h =
    let behind_joins : (is_readable sub && (is_closed sub && (ends_again word row && is_readable row))) ≡ true =
    (and_parts (is_joining word) _ h).1 in
    let behind_own : (is_closed sub && (ends_again word row && is_readable row)) ≡ true =
    (and_parts (is_readable sub) _ behind_joins).1 in
    let behind_closed : (ends_again word row && is_readable row) ≡ true = (and_parts (is_closed sub) _ behind_own).1 in
    record {
      joins = (and_parts (is_joining word) _ h).0;
      own = (and_parts (is_readable sub) _ behind_joins).0;
      closed = (and_parts (is_closed sub) _ behind_own).0;
      ends = (and_parts (ends_again word row) _ behind_closed).0;
      others = (and_parts (ends_again word row) _ behind_closed).1;
    }

abbrev are_readable : List (List ℕ × Slots) → Bool
are_readable [] = true
are_readable (r ∷ rs) = is_readable r.1 && are_readable rs

found_readable : (rs : List (List ℕ × Slots)) → are_readable rs ≡ true → (word : List ℕ)
    → is_readable (find_row rs word) ≡ true
found_readable [] h word = refl
found_readable (r ∷ rs) h word = by_test (bytes_eq word r.0) (found_readable rs (and_parts _ _ h).1 word) where
  by_test : (b : Bool) → is_readable (find_row rs word) ≡ true → is_readable (cond b r.1 (find_row rs word)) ≡ true
  by_test true others = (and_parts _ _ h).0
  by_test false others = others

pub rows_readable : (word : List ℕ) → is_readable (row_of word) ≡ true
rows_readable word = found_readable rows refl word

-- ---- what stands behind a piece

-- no keyword behind it would belong to the statement
abbrev pub Bears : Stmt → List Spelled → Type 0
Bears s rest = (word : List ℕ) → is_joining word ≡ true → goes_on word s ≡ true → after_keyword word rest ≡ None

-- the same of the last piece of a row
abbrev pub RowEnd : Pieces → List Spelled → Type 0
RowEnd ps rest = (word : List ℕ) → is_joining word ≡ true → go_on word ps ≡ true → after_keyword word rest ≡ None

module _ (EndsExpr : List Spelled → Type 0) (close : (r : List Spelled) → EndsExpr (sign (codes ")") ∷ r))
    (semicolon : (r : List Spelled) → EndsExpr (sign (codes ";") ∷ r))
    (colon : (r : List Spelled) → EndsExpr (sign (codes ":") ∷ r)) where
  sign_ends : (text : List ℕ) (r : List Spelled) → ends_with text ≡ true → EndsExpr (sign text ∷ r)
  sign_ends text r h = by_test (bytes_eq text (codes ")")) (bytes_eq text (codes ";")) refl refl h where
    ends_as : (end : List ℕ) → EndsExpr (sign end ∷ r) → bytes_eq text end ≡ true → EndsExpr (sign text ∷ r)
    ends_as end e k = subst (λ u. EndsExpr (sign u ∷ r)) (sym ((bytes_decides text end).0 k)) e

    by_test : (b c : Bool) → bytes_eq text (codes ")") ≡ b → bytes_eq text (codes ";") ≡ c
        → (b || (c || bytes_eq text (codes ":"))) ≡ true → EndsExpr (sign text ∷ r)
    by_test true c e d k = ends_as (codes ")") (close r) e
    by_test false true e d k = ends_as (codes ";") (semicolon r) d
    by_test false false e d k = ends_as (codes ":") (colon r) k

  pub row_end : (ps : Pieces) (row : Slots) (rest : List Spelled) → Fits ps row → ends_expr row ≡ true
      → EndsExpr (pieces_onto ps rest)
  row_end (a_token t ps) (ASign text ▹ row) rest f e =
      subst (λ u. EndsExpr (u ∷ pieces_onto ps rest)) (sym f.0) (sign_ends text (pieces_onto ps rest) e)
  row_end (maybe_behind t None ps) (MaybeBehind text ▹ row) rest f e = row_end ps row rest f.1 (and_parts _ _ e).1
  row_end (maybe_behind t (Some x) ps) (MaybeBehind text ▹ row) rest f e =
      sign_ends t _ (subst (λ u. ends_with u ≡ true) (sym f.0.0) (and_parts _ _ e).0)
  row_end _ (ASign text ▹ row) rest f e = absurd f
  row_end _ (MaybeBehind text ▹ row) rest f e = absurd f
  row_end _ _ rest f e = absurd cc

pub until_end : (end text : List ℕ) → (bytes_eq end text && bytes_eq end (codes ";")) ≡ true
    → (end ≡ text) × (end ≡ codes ";")
until_end end text h = (
  (bytes_decides end text).0 (and_parts _ _ h).0,
  (bytes_decides end (codes ";")).0 (and_parts _ _ h).1,
)

pub name_lacks : (ps : Pieces) (row : Slots) (rest : List Spelled) → Fits ps row → lacks_name row ≡ true
    → after_name (pieces_onto ps rest) ≡ None
name_lacks (a_token t ps) (AKeyword text ▹ row) rest f e =
    subst (λ u. after_name (u ∷ pieces_onto ps rest) ≡ None) (sym f.0) refl
name_lacks (a_token t ps) (ASign text ▹ row) rest f e =
    subst (λ u. after_name (u ∷ pieces_onto ps rest) ≡ None) (sym f.0) refl
name_lacks _ (AKeyword text ▹ row) rest f e = absurd f
name_lacks _ (ASign text ▹ row) rest f e = absurd f
name_lacks _ _ rest f e = absurd cc

pub sign_lacks : (text : List ℕ) (ps : Pieces) (row : Slots) (rest : List Spelled) → Fits ps row
    → lacks_sign text row ≡ true → after_sign text (pieces_onto ps rest) ≡ None
sign_lacks text (a_token t ps) (ASign other ▹ row) rest f e =
    subst (λ u. after_sign text (u ∷ pieces_onto ps rest) ≡ None) (sym f.0)
    (not_sign other text (pieces_onto ps rest) e)
sign_lacks text (a_block ss ps) (ABlock ▹ row) rest f e = not_sign (codes "{") text _ e
sign_lacks text _ (ASign other ▹ row) rest f e = absurd f
sign_lacks text _ (ABlock ▹ row) rest f e = absurd f
sign_lacks text _ _ rest f e = absurd cc

not_joining : (text word : List ℕ) → not (is_joining text) ≡ true → is_joining word ≡ true
    → not (bytes_eq text word) ≡ true
not_joining text word n j = by_test (bytes_eq text word) refl where
  by_test : (b : Bool) → bytes_eq text word ≡ b → not (bytes_eq text word) ≡ true
  by_test true e =
      let same : is_joining text ≡ is_joining word = ap is_joining ((bytes_decides text word).0 e) in absurd cc
  by_test false e = ap not e

pub body_end : (s : Stmt) (ps : Pieces) (row : Slots) (rest : List Spelled) → Fits ps row → ends_body row ≡ true
    → RowEnd (a_body s ps) rest → (word : List ℕ) → is_joining word ≡ true → goes_on word s ≡ true
    → after_keyword word (pieces_onto ps rest) ≡ None
body_end s no_piece no_slot rest f e b word j open_if = b word j open_if
body_end s (a_token t ps) (AKeyword text ▹ row) rest f e b word j open_if =
    subst (λ u. after_keyword word (u ∷ pieces_onto ps rest) ≡ None) (sym f.0)
    (not_keyword text word (pieces_onto ps rest) (not_joining text word e j))
body_end s (a_token t ps) (ASign text ▹ row) rest f e b word j open_if =
    subst (λ u. after_keyword word (u ∷ pieces_onto ps rest) ≡ None) (sym f.0) refl
body_end s _ no_slot rest f e b word j open_if = absurd f
body_end s _ (AKeyword text ▹ row) rest f e b word j open_if = absurd f
body_end s _ (ASign text ▹ row) rest f e b word j open_if = absurd f
body_end s _ _ rest f e b word j open_if = absurd cc

pub last_end : (s : Stmt) (ps : Pieces) (rest : List Spelled) → RowEnd (a_body s ps) rest → RowEnd ps rest
last_end s no_piece rest b = λ word j h. absurd cc
last_end s _ rest b = b

-- the keyword does not stand behind what may be left out, where it is none of the keywords there
again_end : (word : List ℕ) (ps : Pieces) (row : Slots) (rest : List Spelled) → Fits ps row
    → ends_again word row ≡ true → (are_left_out ps ≡ true → after_keyword word rest ≡ None)
    → after_keyword word (pieces_onto ps rest) ≡ None
again_end word no_piece no_slot rest f e b = b refl
again_end word (a_token t ps) (AKeyword text ▹ row) rest f e b =
    subst (λ u. after_keyword word (u ∷ pieces_onto ps rest) ≡ None) (sym f.0)
    (not_keyword text word (pieces_onto ps rest) e)
again_end word (a_token t ps) (ASign text ▹ row) rest f e b =
    subst (λ u. after_keyword word (u ∷ pieces_onto ps rest) ≡ None) (sym f.0) refl
again_end word (present v one ps) (Perhaps other sub ▹ row) rest f e b =
    not_keyword v word _ (subst (λ u. not (bytes_eq u word) ≡ true) (sym f.0.0) (and_parts _ _ e).0)
again_end word (absent v ps) (Perhaps other sub ▹ row) rest f e b = again_end word ps row rest f.1 (and_parts _ _ e).1 b
again_end word _ no_slot rest f e b = absurd f
again_end word _ (AKeyword text ▹ row) rest f e b = absurd f
again_end word _ (ASign text ▹ row) rest f e b = absurd f
again_end word _ (Perhaps other sub ▹ row) rest f e b = absurd f
again_end word _ _ rest f e b = absurd cc

-- behind rows that begin with this keyword it does not stand
pub list_end : (word w : List ℕ) (more : Several) (ps : Pieces) (row : Slots) (rest : List Spelled) → w ≡ word
    → Fits ps row → is_joining word ≡ true → ends_again word row ≡ true → RowEnd (a_list w more ps) rest
    → after_keyword word (pieces_onto ps rest) ≡ None
list_end word w more ps row rest same f j e b =
    again_end word ps row rest f e (λ out. b word j (rw (out, (bytes_decides word w).1 (sym same)) refl))

pub list_last : (w : List ℕ) (more : Several) (ps : Pieces) (rest : List Spelled) → RowEnd (a_list w more ps) rest
    → RowEnd ps rest
list_last w more ps rest b = λ word j h. b word j (or_right _ _ h)

-- where the row that it begins is left out
pub absent_end : (word w : List ℕ) (ps : Pieces) (row : Slots) (rest : List Spelled) → w ≡ word → Fits ps row
    → is_joining word ≡ true → ends_again word row ≡ true → RowEnd (absent w ps) rest
    → after_keyword word (pieces_onto ps rest) ≡ None
absent_end word w ps row rest same f j e b =
    again_end word ps row rest f e (λ out. b word j (rw (out, (bytes_decides word w).1 (sym same)) refl))

pub absent_last : (w : List ℕ) (ps : Pieces) (rest : List Spelled) → RowEnd (absent w ps) rest → RowEnd ps rest
absent_last w ps rest b = λ word j h. b word j (or_right _ _ h)

-- nothing goes on with a row that is closed
closed_end : (ps : Pieces) (row : Slots) → Fits ps row → is_closed row ≡ true → (word : List ℕ)
    → go_on word ps ≡ false
closed_end no_piece no_slot f c word = refl
closed_end (a_token t ps) (AKeyword text ▹ row) f c word = closed_end ps row f.1 c word
closed_end (a_token t ps) (ASign text ▹ row) f c word = closed_end ps row f.1 c word
closed_end (an_expr e ps) (AnExpr ▹ row) f c word = closed_end ps row f.1 c word
closed_end (maybe_an_expr e ps) (Until end ▹ row) f c word = closed_end ps row f.1 c word
closed_end (maybe_a_name x ps) (MaybeName ▹ row) f c word = closed_end ps row f c word
closed_end (maybe_behind t e ps) (MaybeBehind text ▹ row) f c word = closed_end ps row f.1 c word
closed_end (a_condition e ps) (ACondition ▹ row) f c word = closed_end ps row f.1 c word
closed_end (a_block ss ps) (ABlock ▹ row) f c word = closed_end ps row f.1 c word
closed_end (a_switch gs ps) (ASwitch ▹ row) f c word = closed_end ps row f.1 c word
closed_end (maybe_resources rs ps) (MaybeResources ▹ row) f c word = closed_end ps row f.1 c word
closed_end (a_catch_parameter p ps) (ACatchParameter ▹ row) f c word = closed_end ps row f.1 c word
closed_end (some_part ps) (SomePart ▹ row) f c word = closed_end ps row f.1 c word
closed_end (a_body s ps) (ABody ▹ row) f c word = absurd cc
closed_end (a_list w more ps) (Again v sub ▹ row) f c word = absurd cc
closed_end (present w one ps) (Perhaps v sub ▹ row) f c word = absurd cc
closed_end (absent w ps) (Perhaps v sub ▹ row) f c word = absurd cc
closed_end _ _ f c word = absurd f

pub closed_row : (ps : Pieces) (row : Slots) (rest : List Spelled) → Fits ps row → is_closed row ≡ true
    → RowEnd ps rest
closed_row ps row rest f c word j h = let shut = closed_end ps row f c word in absurd cc

-- how many rows
unfoldable pub rows_of : Several → ℕ
rows_of no_row = 0
rows_of (row_then ps more) = suc (rows_of more)

-- how many groups
unfoldable pub groups_of : Groups → ℕ
groups_of no_group = 0
groups_of (group_then labels ss gs) = suc (groups_of gs)

-- what no row has as its keyword
pub no_row_word : (word other : List ℕ) → is_row word ≡ true → is_row other ≡ false → bytes_eq word other ≡ false
no_row_word word other is without = by_test (bytes_eq word other) refl where
  by_test : (b : Bool) → bytes_eq word other ≡ b → b ≡ false
  by_test true e = let same : is_row word ≡ is_row other = ap is_row ((bytes_decides word other).0 e) in absurd cc
  by_test false e = refl
