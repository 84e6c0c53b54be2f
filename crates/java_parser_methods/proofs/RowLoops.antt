-- The loops that read groups, resources and types: what they have, and what they still read.
use Rattle.std.proofs.Common.{◌≡◌, ℕ, suc, ◌+◌, ◌-◌, ◌≤◌, ◌<◌, Bool, true, false, List, [], ◌∷◌, ◌++◌, length, map}
use Rattle.std.proofs.Common.{codes, Option, Some, None, refl, sym, ◌∙◌, ap, append-nil, append_assoc, arith}
use Rattle.std.proofs.lemmas.List.{length-map}
use Rattle.std.specs.Prelude.{is_some, ◌||◌, if◌then◌else◌}
use Rattle.java_lexer.specs.declared.token.Token.{Token}
use Rattle.java_tree.specs.declared.words.Spelled.{Spelled}
use Rattle.java_tree.specs.Trees.{Stmt, Label, Resource, Resources, Groups}
use Rattle.java_tree.specs.Trees.{no_group, group_then, Stmts, pack_stmts}
use Rattle.java_tree.specs.FormedModifiers.{has_some}
use Rattle.java_tree.specs.View.{Group, pack_groups}
use Rattle.java_parser_types.specs.declared.error.ReadError.{ReadError}
use Rattle.java_parser_types.specs.declared.error.ReadError.TheVariants.{Memory, Unformed}
use Rattle.java_parser_grammar.specs.BalancedReading.{Reading}
use Rattle.java_parser_grammar.specs.Taking.{◌>>=◌, match_option, after_sign}
use Rattle.java_parser_grammar.specs.Readers.{Readers}
use Rattle.java_parser_grammar.specs.StatementReading.{begins_label, labels_at}
use Rattle.java_parser_grammar.specs.StatementReading.{group_stmts_at, groups_at, resource_at}
use Rattle.java_parser_grammar.specs.StatementReading.{more_resources_at}
use Rattle.java_parser_methods.specs.RowReading.{groups_onto, groups_finished, group_at}
use Rattle.java_parser_methods.specs.RowReading.{resource_behind, resources_close, resources_end, the_resources}
use Rattle.java_parser_types.specs.Tokens.{spelled}
use Rattle.java_parser_types.specs.Finishing.{finished}
use Rattle.java_parser_types.specs.Endings.{as_they_are}
use Rattle.java_parser_types.specs.ReadAnswer.{Fails}
use Rattle.java_parser_types.proofs.ReadLoops.{some_left, none_left, regroup}

-- ---- what is left

-- one more than there are tokens: one is left at the end
pub one_left : (tokens : List Token) (i : ℕ) → i ≤ length tokens
    → suc (length (map spelled tokens)) - i ≡ suc (length (map spelled tokens) - i)
one_left tokens i le = omega (arith, length-map tokens spelled)

pub as_many : (tokens : List Token) (i : ℕ) → i < length tokens
    → suc (length (map spelled tokens)) - i ≡ suc (suc (length (map spelled tokens)) - (i + 1))
as_many tokens i lt = omega (arith, length-map tokens spelled)

pub last_left : (tokens : List Token) (i : ℕ) → length tokens ≤ i → i ≤ length tokens
    → suc (length (map spelled tokens)) - i ≡ suc 0
last_left tokens i le most = omega (arith, length-map tokens spelled)

none_behind : (front : List Stmt) (o : Option (Stmt × List Spelled)) → finished as_they_are front (o >>= λ x. None)
    ≡ None
none_behind front (Some x) = refl
none_behind front None = refl

pub no_resource : (ts : List Token) → length ts ≤ 0 → resource_behind (map spelled ts) ≡ None
no_resource [] le = refl
no_resource (t ∷ ts) le = absurd (omega arith)

-- ---- the statements of a group

abbrev ends : Readers → List Spelled → Bool
ends readers ts = begins_label readers ts || is_some (after_sign (codes "}") ts)

module _ (readers : Readers) (read : Reading Stmt) (total : Option (List Stmt × List Spelled)) (tokens : List Token)
    (i : ℕ) (front : List Stmt) where
  pub grouped_goes_on : (x : Stmt) (here rest : List Spelled) → i < length tokens → ends readers here ≡ false
      → read here ≡ Some (x, rest)
      → finished as_they_are front (group_stmts_at readers read (suc (length (map spelled tokens)) - i) here) ≡ total
      → finished as_they_are (front ++ x ∷ []) (group_stmts_at readers read (suc (length (map spelled tokens))
      - (i + 1)) rest) ≡ total
  unfolding group_stmts_at
  grouped_goes_on x here rest lt g h so_far =
      let k = as_many tokens i lt in
      let one : finished as_they_are front (group_stmts_at readers read (suc (length (map spelled tokens)) - i) here)
      ≡ finished as_they_are (front ++ x ∷ []) (group_stmts_at readers read (suc (length (map spelled tokens))
      - (i + 1)) rest) =
      rw (k, g, h) (regroup as_they_are front x (group_stmts_at readers read (suc (length (map spelled tokens))
      - (i + 1)) rest)) in
      sym one ∙ so_far

  pub grouped_fails : (e : ReadError) (here : List Spelled) → i < length tokens → ends readers here ≡ false
      → Fails e (read here)
      → finished as_they_are front (group_stmts_at readers read (suc (length (map spelled tokens)) - i) here) ≡ total
      → Fails e total
  unfolding group_stmts_at
  grouped_fails Memory here lt g h so_far = tt
  grouped_fails Unformed here lt g h so_far =
      let k = as_many tokens i lt in
      let one : finished as_they_are front (group_stmts_at readers read (suc (length (map spelled tokens)) - i) here)
      ≡ None = rw (k, g, h) refl in
      sym so_far ∙ one

  pub grouped_ends : (here : List Spelled) → i ≤ length tokens → ends readers here ≡ true
      → finished as_they_are front (group_stmts_at readers read (suc (length (map spelled tokens)) - i) here) ≡ total
      → total ≡ Some (front, here)
  unfolding group_stmts_at
  grouped_ends here le g so_far =
      let k = one_left tokens i le in
      let one : finished as_they_are front (group_stmts_at readers read (suc (length (map spelled tokens)) - i) here)
      ≡ Some (front, here) = rw (k, g) (ap (λ (xs : List Stmt). as_they_are (xs, here)) (append-nil front)) in
      sym so_far ∙ one

  pub grouped_runs_out : (here : List Spelled) → length tokens ≤ i → i ≤ length tokens → ends readers here ≡ false
      → finished as_they_are front (group_stmts_at readers read (suc (length (map spelled tokens)) - i) here) ≡ total
      → total ≡ None
  unfolding group_stmts_at
  grouped_runs_out here le most g so_far =
      let k = last_left tokens i le most in
      let one : finished as_they_are front (group_stmts_at readers read (suc (length (map spelled tokens)) - i) here)
      ≡ None = rw (k, g) (none_behind front (read here)) in
      sym so_far ∙ one

-- ---- groups

groups_push : (front : List Group) (g : Group) (more : Groups) → groups_onto (front ++ g ∷ []) more ≡ groups_onto
    front (group_then g.0 g.1 more)
groups_push [] g more = refl
groups_push (h ∷ front) g more = ap (group_then h.0 h.1) (groups_push front g more)

pub groups_packed : (front : List Group) → groups_onto front no_group ≡ pack_groups front
groups_packed [] = refl
groups_packed (g ∷ front) = ap (group_then g.0 g.1) (groups_packed front)

regroup_groups : (front : List Group) (g : Group) (read : Option (Groups × List Spelled))
    → groups_finished front (read >>= λ y. Some (group_then g.0 g.1 y.0, y.1)) ≡ groups_finished (front ++ g ∷ []) read
regroup_groups front g (Some y) = ap (λ (gs : Groups). Some (gs, y.1)) (sym (groups_push front g y.0))
regroup_groups front g None = refl

pub no_group_before : (read : Option (Groups × List Spelled)) → groups_finished [] read ≡ read
no_group_before (Some x) = refl
no_group_before None = refl

abbrev a_group : List Label → List Stmt × List Spelled → Option (Group × List Spelled)
a_group ls x = Some ((ls, pack_stmts x.0), x.1)

abbrev put_group : List Label → Stmts → Groups × List Spelled → Option (Groups × List Spelled)
put_group ls ss gs = Some (group_then ls ss gs.0, gs.1)

module _ (stmts : List Spelled → Option (List Stmt × List Spelled)) (go : List Spelled
    → Option (Groups × List Spelled)) where
  abbrev in_one : List Label × List Spelled → Option (Groups × List Spelled)
  in_one l = if has_some l.0 then stmts l.1 >>= (λ x. go x.1 >>= put_group l.0 (pack_stmts x.0)) else None

  abbrev in_two : List Label × List Spelled → Option (Group × List Spelled)
  in_two l = if has_some l.0 then stmts l.1 >>= a_group l.0 else None

  abbrev and_more : Group × List Spelled → Option (Groups × List Spelled)
  and_more g = go g.1 >>= put_group g.0.0 g.0.1

  by_stmts : (b : Bool) (ls : List Label) (ss : Option (List Stmt × List Spelled))
      → (if b then ss >>= (λ x. go x.1 >>= put_group ls (pack_stmts x.0)) else None)
      ≡ ((if b then ss >>= a_group ls else None) >>= and_more)
  by_stmts false ls ss = refl
  by_stmts true ls None = refl
  by_stmts true ls (Some x) = refl

  by_group : (ls : Option (List Label × List Spelled)) → (ls >>= in_one) ≡ ((ls >>= in_two) >>= and_more)
  by_group None = refl
  by_group (Some l) = by_stmts (has_some l.0) l.0 (stmts l.1)

module _ (readers : Readers) (read : Reading Stmt) (n : ℕ) where
  -- groups by one of them
  one_group : (m : ℕ) (here : List Spelled) → groups_at readers read n (suc m) here ≡ match_option
      (after_sign (codes "}") here) (group_at readers read n here >>= λ g. groups_at readers read n m g.1 >>=
      λ gs. Some (
        group_then g.0.0 g.0.1 gs.0,
        gs.1,
      )) (λ r. Some (no_group, r))
  unfolding groups_at
  one_group m here =
      ap (λ (o : Option (Groups × List Spelled)). match_option (after_sign (codes "}") here) o (λ r. Some (
        no_group,
        r,
      ))) (by_group (λ ts. group_stmts_at readers read (suc (length ts)) ts) (λ ts. groups_at readers read n m ts)
      (labels_at readers n (length here) here))

  module _ (total : Option (Groups × List Spelled)) (tokens : List Token) (i : ℕ) (front : List Group) where
    pub group_goes_on : (g : Group) (here rest : List Spelled) → i < length tokens → after_sign (codes "}") here ≡ None
        → group_at readers read n here ≡ Some (g, rest)
        → groups_finished front (groups_at readers read n (length (map spelled tokens) - i) here) ≡ total
        → groups_finished (front ++ g ∷ []) (groups_at readers read n (length (map spelled tokens) - (i + 1)) rest)
        ≡ total
    group_goes_on g here rest lt c h so_far =
        let k = some_left tokens i lt in
        let m = length (map spelled tokens) - (i + 1) in
        let one : groups_finished front (groups_at readers read n (length (map spelled tokens) - i) here)
        ≡ groups_finished (front ++ g ∷ []) (groups_at readers read n (length (map spelled tokens) - (i + 1)) rest) =
        rw (k, one_group m here, c, h) (regroup_groups front g (groups_at readers read n m rest)) in
        sym one ∙ so_far

    pub group_fails : (e : ReadError) (here : List Spelled) → i < length tokens → after_sign (codes "}") here ≡ None
        → Fails e (group_at readers read n here)
        → groups_finished front (groups_at readers read n (length (map spelled tokens) - i) here) ≡ total
        → Fails e total
    group_fails Memory here lt c h so_far = tt
    group_fails Unformed here lt c h so_far =
        let k = some_left tokens i lt in
        let m = length (map spelled tokens) - (i + 1) in
        let one : groups_finished front (groups_at readers read n (length (map spelled tokens) - i) here) ≡ None =
        rw (k, one_group m here, c, h) refl in
        sym so_far ∙ one

    pub groups_end : (here after : List Spelled) → i < length tokens → after_sign (codes "}") here ≡ Some after
        → groups_finished front (groups_at readers read n (length (map spelled tokens) - i) here) ≡ total
        → total ≡ Some (pack_groups front, after)
    groups_end here after lt c so_far =
        let k = some_left tokens i lt in
        let m = length (map spelled tokens) - (i + 1) in
        let one : groups_finished front (groups_at readers read n (length (map spelled tokens) - i) here) ≡ Some (
          pack_groups front,
          after,
        ) = rw (k, one_group m here, c) (ap (λ (gs : Groups). Some (gs, after)) (groups_packed front)) in
        sym so_far ∙ one

    pub groups_run_out : (here : List Spelled) → length tokens ≤ i
        → groups_finished front (groups_at readers read n (length (map spelled tokens) - i) here) ≡ total
        → total ≡ None
    unfolding groups_at
    groups_run_out here le so_far =
        let k = none_left tokens i le in
        let one : groups_finished front (groups_at readers read n (length (map spelled tokens) - i) here) ≡ None =
        rw k refl in
        sym so_far ∙ one

-- ---- resources

regroup_resources : (front : List Resource) (x : Resource) (read : Option ((List Resource × Bool) × List Spelled))
    → resources_end front (read >>= λ y. Some ((x ∷ y.0.0, y.0.1), y.1)) ≡ resources_end (front ++ x ∷ []) read
regroup_resources front x (Some y) = ap (λ (xs : List Resource). Some (
  the_resources xs y.0.1,
  y.1,
)) (simp append_assoc)
regroup_resources front x None = refl

by_last : (b : Option (List Spelled)) (r : List Spelled) (go : List Spelled
    → Option ((List Resource × Bool) × List Spelled)) → match_option b (go r) (λ s. Some (([], true), s))
    ≡ match_option (match_option b (Some r) (λ s. None)) (b >>= λ s. Some (([], true), s)) go
by_last None r go = refl
by_last (Some s) r go = refl

by_sign : (o : Option (List Spelled)) (close : List Spelled → Option (List Spelled)) (go : List Spelled
    → Option ((List Resource × Bool) × List Spelled)) →
    (o >>= λ r. match_option (close r) (go r) (λ s. Some (([], true), s))) ≡
    match_option (match_option o None (λ r. match_option (close r) (Some r) (λ s. None)))
    (o >>= λ r. close r >>= λ s. Some (([], true), s)) go
by_sign None close go = refl
by_sign (Some r) close go = by_last (close r) r go

by_end : (b o : Option (List Spelled)) (close : List Spelled → Option (List Spelled)) (go : List Spelled
    → Option ((List Resource × Bool) × List Spelled)) →
    match_option b (o >>= λ r. match_option (close r) (go r) (λ s. Some (([], true), s))) (λ s. Some (([], false), s)) ≡
    match_option (match_option b (match_option o None (λ r. match_option (close r) (Some r) (λ s. None))) (λ s. None))
    (match_option b (o >>= λ r. close r >>= λ s. Some (([], true), s)) (λ s. Some (([], false), s))) go
by_end None o close go = by_sign o close go
by_end (Some s) o close go = refl

module _ (readers : Readers) (n : ℕ) (total : Option (Resources × List Spelled)) (tokens : List Token) (i : ℕ)
    (front : List Resource) where
  one_resource : (m : ℕ) (here : List Spelled) → more_resources_at readers n (suc m) here ≡ match_option
      (resource_behind here) (resources_close here) (λ r. resource_at readers n r >>= λ first. more_resources_at
      readers n m first.1 >>= λ others. Some ((first.0 ∷ others.0.0, others.0.1), others.1))
  unfolding more_resources_at
  one_resource m here = by_end (after_sign (codes ")") here) (after_sign (codes ";") here) (after_sign (codes ")"))
      (λ r. resource_at readers n r >>= λ first. more_resources_at readers n m first.1 >>= λ others. Some (
        (first.0 ∷ others.0.0, others.0.1),
        others.1,
      ))

  pub resource_goes_on : (x : Resource) (here after rest : List Spelled) → i < length tokens
      → resource_behind here ≡ Some after → resource_at readers n after ≡ Some (x, rest)
      → resources_end front (more_resources_at readers n (suc (length (map spelled tokens)) - i) here) ≡ total
      → resources_end (front ++ x ∷ []) (more_resources_at readers n (suc (length (map spelled tokens)) - (i + 1)) rest)
      ≡ total
  resource_goes_on x here after rest lt g h so_far =
      let k = as_many tokens i lt in
      let m = suc (length (map spelled tokens)) - (i + 1) in
      let one : resources_end front (more_resources_at readers n (suc (length (map spelled tokens)) - i) here)
      ≡ resources_end (front ++ x ∷ []) (more_resources_at readers n (suc (length (map spelled tokens)) - (i + 1))
      rest) =
      rw (k, one_resource m here, g, h) (regroup_resources front x (more_resources_at readers n m rest)) in
      sym one ∙ so_far

  pub resource_fails : (e : ReadError) (here after : List Spelled) → i < length tokens
      → resource_behind here ≡ Some after → Fails e (resource_at readers n after)
      → resources_end front (more_resources_at readers n (suc (length (map spelled tokens)) - i) here) ≡ total
      → Fails e total
  resource_fails Memory here after lt g h so_far = tt
  resource_fails Unformed here after lt g h so_far =
      let k = as_many tokens i lt in
      let m = suc (length (map spelled tokens)) - (i + 1) in
      let one : resources_end front (more_resources_at readers n (suc (length (map spelled tokens)) - i) here) ≡ None =
      rw (k, one_resource m here, g, h) refl in
      sym so_far ∙ one

  pub resources_stop : (here : List Spelled) → i ≤ length tokens → resource_behind here ≡ None
      → resources_end front (more_resources_at readers n (suc (length (map spelled tokens)) - i) here) ≡ total
      → total ≡ resources_end front (resources_close here)
  resources_stop here le g so_far =
      let k = one_left tokens i le in
      let m = length (map spelled tokens) - i in
      let one : resources_end front (more_resources_at readers n (suc (length (map spelled tokens)) - i) here)
      ≡ resources_end front (resources_close here) = rw (k, one_resource m here, g) refl in
      sym so_far ∙ one
