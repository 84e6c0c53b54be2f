-- The loop that reads the clauses and the last block of a `try`: what it has, and what it still reads.
use Rattle.std.proofs.Common.{◌≡◌, ℕ, suc, ◌+◌, ◌-◌, ◌≤◌, ◌<◌, List, [], ◌∷◌, ◌++◌, length, map, option_map}
use Rattle.std.proofs.Common.{codes, Option, Some, None, refl, sym, ◌∙◌, ap, arith}
use Rattle.std.specs.Prelude.{is_some, Vec}
use Rattle.std.specs.Global.{Global}
use Rattle.java_lexer.specs.declared.token.Token.{Token}
use Rattle.java_tree.specs.declared.words.Spelled.{Spelled}
use Rattle.java_tree.specs.declared.statements.CatchTree.{CatchTree}
use Rattle.java_tree.specs.declared.statements.Statement.{Statement}
use Rattle.java_tree.specs.KeptPlaces.{Places, Puts, each_puts, maybe_puts, catch_places, stmt_places}
use Rattle.java_tree.specs.Trees.{Pieces, Several, no_row, row_then, Stmts}
use Rattle.java_tree.specs.View.{pack_rows}
use Rattle.java_parser_types.specs.declared.error.ReadError.{ReadError}
use Rattle.java_parser_types.specs.declared.error.ReadError.TheVariants.{Memory, Unformed}
use Rattle.java_parser_grammar.specs.BalancedReading.{Reading}
use Rattle.java_parser_grammar.specs.Taking.{◌>>=◌}
use Rattle.java_parser_grammar.specs.Readers.{Readers}
use Rattle.java_parser_grammar.specs.StatementReading.{again_at}
use Rattle.java_parser_parts.specs.Parts.{Clause, Last, Nothing, next_part}
use Rattle.java_parser_parts.proofs.NextParts.{clause_next, last_next, nothing_next}
use Rattle.java_parser_methods.specs.RowReading.{rows_onto, parts_finished, parts_left, finally_at}
use Rattle.java_parser_methods.proofs.RowLoops.{one_left, as_many}
use Rattle.java_parser_types.proofs.PutPlaces.{one_put}
use Rattle.java_parser_types.specs.LedPlaces.{Leads}
use Rattle.java_parser_types.specs.Tokens.{spelled}
use Rattle.java_parser_types.specs.ReadAnswer.{Fails}

rows_push : (front : List Pieces) (ps : Pieces) (more : Several) → rows_onto (front ++ ps ∷ []) more ≡ rows_onto front
    (row_then ps more)
rows_push [] ps more = refl
rows_push (qs ∷ front) ps more = ap (row_then qs) (rows_push front ps more)

rows_packed : (front : List Pieces) → rows_onto front no_row ≡ pack_rows front
rows_packed [] = refl
rows_packed (ps ∷ front) = ap (row_then ps) (rows_packed front)

abbrev Parts : Type 0
Parts = (Several × Option Stmts) × List Spelled

pub no_part_before : (read : Option Parts) → parts_finished [] read ≡ read
no_part_before (Some x) = refl
no_part_before None = refl

-- nothing stands where no tokens do
pub nothing_left : {A : Type 0} (last : Option A) (ts : List Token) → length ts ≤ 0
    → Nothing ≡ next_part (is_some last) (map spelled ts)
nothing_left None [] le = refl
nothing_left (Some x) [] le = refl
nothing_left last (t ∷ ts) le = absurd (omega arith)

module _ (last_of : Reading (Option Stmts)) where
  abbrev with_last : Several × List Spelled → Option Parts
  with_last cs = last_of cs.1 >>= λ l. Some ((cs.0, l.0), l.1)

  regroup_last : (front : List Pieces) (ps : Pieces) (more : Several) (l : Option (Option Stmts × List Spelled))
      → parts_finished front (l >>= λ x. Some ((row_then ps more, x.0), x.1)) ≡ parts_finished (front ++ ps ∷ [])
      (l >>= λ x. Some ((more, x.0), x.1))
  regroup_last front ps more None = refl
  regroup_last front ps more (Some x) = ap (λ (cs : Several). Some ((cs, x.0), x.1)) (sym (rows_push front ps more))

  regroup_parts : (front : List Pieces) (ps : Pieces) (read : Option (Several × List Spelled))
      → parts_finished front ((read >>= λ y. Some (row_then ps y.0, y.1)) >>= with_last) ≡ parts_finished (front
      ++ ps ∷ []) (read >>= with_last)
  regroup_parts front ps None = refl
  regroup_parts front ps (Some y) = regroup_last front ps y.0 (last_of y.1)

module _ (readers : Readers) (one : Reading Pieces) (block : Reading Stmts) (total : Option Parts) (tokens : List Token)
    (i : ℕ) (front : List Pieces) where
  abbrev left : (m : ℕ) → Option Stmts → Reading (Several × Option Stmts)
  left m last ts = parts_left readers one block m last ts

  -- what was made so far, and what is left, are all
  abbrev SoFar : Option Stmts → (here : List Spelled) → Type 0
  SoFar last here = parts_finished front (left (suc (length (map spelled tokens)) - i) last here) ≡ total

  module _ {A : Type 0} (see : A → Stmts) where
    pub clause_goes_on : (last : Option A) (ps : Pieces) (here after rest : List Spelled) → i < length tokens
        → Clause after ≡ next_part (is_some last) here → one after ≡ Some (ps, rest)
        → SoFar (option_map see last) here
        → parts_finished (front ++ ps ∷ []) (left (suc (length (map spelled tokens)) - (i + 1)) (option_map see last)
        rest) ≡ total
    unfolding again_at
    clause_goes_on (Some b) ps here after rest lt next h so_far = absurd cc
    clause_goes_on None ps here after rest lt next h so_far =
        let k = as_many tokens i lt in
        let g = clause_next here after next in
        let step : parts_finished front (left (suc (length (map spelled tokens)) - i) None here)
        ≡ parts_finished (front ++ ps ∷ []) (left (suc (length (map spelled tokens)) - (i + 1)) None rest) =
        rw (k, g, h) (regroup_parts (finally_at readers block) front ps (again_at readers one (codes "catch")
        (suc (length (map spelled tokens)) - (i + 1)) rest)) in
        sym step ∙ so_far

    pub clause_fails : (last : Option A) (e : ReadError) (here after : List Spelled) → i < length tokens
        → Clause after ≡ next_part (is_some last) here → Fails e (one after) → SoFar (option_map see last) here
        → Fails e total
    unfolding again_at
    clause_fails last Memory here after lt next h so_far = tt
    clause_fails (Some b) Unformed here after lt next h so_far = absurd cc
    clause_fails None Unformed here after lt next h so_far =
        let k = as_many tokens i lt in
        let g = clause_next here after next in
        let step : parts_finished front (left (suc (length (map spelled tokens)) - i) None here) ≡ None =
        rw (k, g, h) refl in
        sym so_far ∙ step

    pub last_goes_on : (last : Option A) (b : A) (m : ℕ) (here after rest : List Spelled) → i < length tokens
        → Last after ≡ next_part (is_some last) here → block after ≡ Some (see b, rest)
        → SoFar (option_map see last) here → parts_finished front (left m (Some (see b)) rest) ≡ total
    unfolding again_at
    last_goes_on (Some a) b m here after rest lt next h so_far = absurd cc
    last_goes_on None b m here after rest lt next h so_far =
        let k = as_many tokens i lt in
        let g = last_next here after next in
        let step : parts_finished front (left (suc (length (map spelled tokens)) - i) None here) ≡ parts_finished front
        (left m (Some (see b)) rest) = rw (k, g.0, g.1, h) refl in
        sym step ∙ so_far

    pub last_fails : (last : Option A) (e : ReadError) (here after : List Spelled) → i < length tokens
        → Last after ≡ next_part (is_some last) here → Fails e (block after) → SoFar (option_map see last) here
        → Fails e total
    unfolding again_at
    last_fails last Memory here after lt next h so_far = tt
    last_fails (Some a) Unformed here after lt next h so_far = absurd cc
    last_fails None Unformed here after lt next h so_far =
        let k = as_many tokens i lt in
        let g = last_next here after next in
        let step : parts_finished front (left (suc (length (map spelled tokens)) - i) None here) ≡ None =
        rw (k, g.0, g.1, h) refl in
        sym so_far ∙ step

    pub parts_end : (last : Option A) (here : List Spelled) → i ≤ length tokens
        → Nothing ≡ next_part (is_some last) here → SoFar (option_map see last) here
        → total ≡ Some ((pack_rows front, option_map see last), here)
    unfolding again_at
    parts_end (Some b) here le next so_far =
        sym so_far ∙ ap (λ (cs : Several). Some ((cs, Some (see b)), here)) (rows_packed front)
    parts_end None here le next so_far =
        let k = one_left tokens i le in
        let g = nothing_next here next in
        let step : parts_finished front (left (suc (length (map spelled tokens)) - i) None here) ≡ Some (
          (pack_rows front, None),
          here,
        ) = rw (k, g.0, g.1) (ap (λ (cs : Several). Some ((cs, None), here)) (rows_packed front)) in
        sym so_far ∙ step

-- ---- places

abbrev last_puts : Option (Vec Statement Global) → Puts
last_puts last = maybe_puts (option_map (λ ss. each_puts (map stmt_places ss.items)) last)

pub clause_put : (items : List CatchTree) (last : Option (Vec Statement Global)) (n : CatchTree) (ts r : List Spelled)
    (start here there : Places) → Clause r ≡ next_part (is_some last) ts → Leads (catch_places n) here there
    → Leads (λ rest. each_puts (map catch_places items) (last_puts last rest)) start here
    → Leads (λ rest. each_puts (map catch_places (items ++ n ∷ [])) (last_puts last rest)) start there
clause_put items (Some b) n ts r start here there next led so_far = absurd cc
clause_put items None n ts r start here there next led so_far =
    one_put catch_places items n start here there led so_far

pub last_put : (items : List CatchTree) (last : Option (Vec Statement Global)) (b : Vec Statement Global)
    (ts r : List Spelled) (start here there : Places) → Last r ≡ next_part (is_some last) ts
    → Leads (each_puts (map stmt_places b.items)) here there
    → Leads (λ rest. each_puts (map catch_places items) (last_puts last rest)) start here
    → Leads (λ rest. each_puts (map catch_places items) (each_puts (map stmt_places b.items) rest)) start there
last_put items (Some a) b ts r start here there next led so_far = absurd cc
last_put items None b ts r start here there next led so_far =
    λ rest at. so_far (each_puts (map stmt_places b.items) rest) (led rest at)
