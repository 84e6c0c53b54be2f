-- What every program of units keeps.
use Rattle.std.proofs.Common.{◌≡◌, ℕ, zero, suc, Bool, true, false, cond, not, ◌&&◌, ◌||◌, List, [], ◌∷◌, Option, Some}
use Rattle.std.proofs.Common.{None, map, refl, sym, ap, ◌∙◌, slice_get, is_some, is_none, length, nat_lt, nat_le, arith}
use Rattle.std.proofs.lemmas.Bool.Decides.{nat_tests}
use Rattle.std.specs.List.{list_all}
use Rattle.std.specs.Option.{option_or}
use Rattle.std.proofs.lemmas.Bool.{and_from, or_right}
use Rattle.container_cells.specs.declared.cell.Containers.{Containers}
use Rattle.racer_base.specs.declared.ids.MethodId.{MethodId}
use Rattle.racer_base.specs.declared.limits.TheConstants.{MAX_PARAMETERS, MAX_LOCALS}
use Rattle.java_tree.specs.declared.unit.Unit as unit_type
use Rattle.java_tree.specs.declared.unit.Member.{Member}
use Rattle.java_resolver.specs.declared.infos.ClassInfo.{ClassInfo}
use Rattle.java_resolver.specs.declared.infos.MethodInfo.{MethodInfo}
use Rattle.java_resolver.specs.Declarations.{names_of, further_arrays}
use Rattle.core_code.specs.declared.code.Reason.{Reason}
use Rattle.core_code.specs.declared.code.Reason.TheVariants.{Overload, Outside, Parameters, Locals, Operations}
use Rattle.core_code.specs.declared.code.Reason.TheVariants.{Recursive}
use Rattle.core_code.specs.Tree.{can_end, in_sequence}
use Rattle.core_code.specs.Core.{Core, Method}
use Rattle.core_code.specs.Facts.{is_stack_enough, are_stacks_enough, is_in_order, are_sites_in_order, may_be_entry}
use Rattle.core_code.specs.Facts.{are_entries_analysed, has_few_parameters, are_parameters_few}
use Rattle.core_code.specs.CallFacts.{has_right_calls, are_calls_right, ends_by_return, do_end_by_return}
use Rattle.java_tree.specs.declared.methods.MethodTree.{MethodTree}
use Rattle.java_tree.specs.declared.methods.ParameterTree.{ParameterTree}
use Rattle.java_tree.specs.View.{ty_of}
use Rattle.core_lowering_rules.specs.Context.{Context, Folder, made}
use Rattle.core_lowering_rules.specs.Scopes.{of_type}
use Rattle.core_lowering_drafts.specs.Sites.{numbered}
use Rattle.core_lowering_rules.specs.Methods.{Body, Default, Spelled, Unspelled, Source, entered, fields_begun}
use Rattle.core_lowering_rules.specs.Methods.{parameters_declared, is_large, is_past, is_past_limit, ended}
use Rattle.core_lowering_rules.specs.Methods.{spelled_code, method_code}
use Rattle.core_lowering_rules.specs.Programs.{sources_of, status_of, declared_in, statuses_from, folder_of, class_core}
use Rattle.core_lowering_rules.specs.Programs.{is_overloaded}
use Rattle.core_lowering_rules.specs.Programs.{local_count, where_so, is_outside}
use Rattle.core_lowering_rules.specs.Programs.{is_checked, is_entry, method_core, method_cores, program_of}
use Rattle.core_lowering_rules.proofs.Runs.{whole_high, whole_calls}
use Rattle.core_lowering_rules.proofs.FoundElements.{Each}
use Rattle.core_lowering_rules.proofs.KindedMethods.{method-keeps, guards-parameters}
use Rattle.core_lowering_rules.proofs.StatusesUnseen.{with_statuses}
use Rattle.core_lowering_rules.proofs.KindedPrograms.{IsRightSource, folder-stands, sources-right}
use Rattle.core_lowering_rules.proofs.NumberedCode.{height-numbered, calls-numbered, sites-numbered, ended-ends}

-- ---- entries

checked-same : (classes : List ClassInfo) (n : ℕ) →
    elim (slice_get (map class_core classes) n) as (λ _. Bool) [ None ↦ false | Some class ↦ class.checked ] ≡
    elim (slice_get classes n) as (λ _. Bool) [ None ↦ false | Some class ↦ class.checked ]
checked-same [] n = refl
checked-same (c ∷ classes) zero = refl
checked-same (c ∷ classes) (suc n) = checked-same classes n

entry-test : (a b c d e : Bool) → (not (a && b && c && d && e) || (a && b)) ≡ true
entry-test false b c d e = refl
entry-test true false c d e = refl
entry-test true true c d e = or_right (not (true && true && c && d && e)) true refl

-- ---- ends

outside-some : (b : Bool) (rest : Option Reason) →
    is_some (option_or (cond b (Some Overload) None) (option_or (Some Outside) rest)) ≡ true
outside-some true rest = refl
outside-some false rest = refl

some-behind : (a b : Option Reason) → is_some b ≡ true → is_some (option_or a b) ≡ true
some-behind None b h = h
some-behind (Some r) b h = refl

-- parameters do not depend on which methods are analysed
parameters-blind : (statuses : List (Option Reason)) (c : Context) (ps : List ParameterTree) →
    parameters_declared (with_statuses statuses c) ps ≡ with_statuses statuses (parameters_declared c ps)
parameters-blind statuses c [] = refl
parameters-blind statuses c (p ∷ ps) =
    parameters-blind statuses (of_type c (ty_of p.kind) (further_arrays p) p.name) ps

-- ---- parameters

few-or_more : (limit count : ℕ) (rest : Option Reason) →
    (is_some (option_or (where_so (nat_lt limit count) Parameters) rest) || nat_le count limit) ≡ true
few-or_more limit count rest = by (nat_lt limit count) refl
  where
    by : (b : Bool) → nat_lt limit count ≡ b →
        (is_some (option_or (where_so b Parameters) rest) || nat_le count limit) ≡ true
    by true e = refl
    by false e =
        let few : nat_le count limit ≡ true = grind (arith, nat_tests, e) in
        or_right (is_some rest) (nat_le count limit) few

few-or_reason : (overloaded unspelled : Bool) (count : ℕ) (rest : Option Reason) →
    (is_some (option_or (where_so overloaded Overload) (option_or (where_so unspelled Outside)
    (option_or (where_so (nat_lt MAX_PARAMETERS count) Parameters) rest))) || nat_le count MAX_PARAMETERS) ≡ true
few-or_reason true unspelled count rest = refl
few-or_reason false true count rest = refl
few-or_reason false false count rest = few-or_more MAX_PARAMETERS count rest

module _ (containers : Containers) (files : List (List ℕ)) (units : List unit_type.Unit)
    (is_recursive : MethodId → Bool) where
  abbrev folder : Folder
  folder = folder_of containers units is_recursive

  abbrev program : Core
  program = program_of containers files units is_recursive

  -- a test that all methods pass
  all-pass : (test : Method → Bool) →
      ((s : Source) (status : Option Reason) → IsRightSource (names_of units) s → test
      (method_core folder s status) ≡ true) →
      (sources : List Source) (statuses : List (Option Reason)) → Each (IsRightSource (names_of units)) sources →
      list_all test (method_cores folder sources statuses) ≡ true
  all-pass test passes [] statuses right = refl
  all-pass test passes (s ∷ sources) [] right = refl
  all-pass test passes (s ∷ sources) (status ∷ statuses) right =
      and_from (test (method_core folder s status)) _ (passes s status right.0)
      (all-pass test passes sources statuses right.1)

  enough : (s : Source) (status : Option Reason) → IsRightSource (names_of units) s →
      is_stack_enough (method_core folder s status) ≡ true
  enough s status right =
      let m = method_core folder s status in
      let keeps = method-keeps program folder
      (folder-stands containers files units is_recursive) s.info s.members status s.body right
      in
      ap (is_some {T = ℕ})
      (height-numbered (in_sequence (method_code folder s)) 0 0 ∙ whole_high program m keeps)

  right-calls : (s : Source) (status : Option Reason) → IsRightSource (names_of units) s →
      has_right_calls program (method_core folder s status) ≡ true
  right-calls s status right =
      let m = method_core folder s status in
      let keeps = method-keeps program folder
      (folder-stands containers files units is_recursive) s.info s.members status s.body right
      in
      calls-numbered program (in_sequence (method_code folder s)) 0 ∙ whole_calls program m keeps

  entry : (s : Source) (status : Option Reason) → IsRightSource (names_of units) s →
      may_be_entry program (method_core folder s status) ≡ true
  entry s status right =
      ap (λ b. not (is_entry folder s.info status) || (is_none status && b))
      (checked-same folder.classes s.info.class.0)
      ∙ entry-test (is_none status) (is_checked folder s.info.class) (not s.info.is_private)
      (not s.info.is_constructor) (not s.info.not_thread_safe)

  pub stacks-enough : are_stacks_enough program ≡ true
  stacks-enough = all-pass is_stack_enough enough (sources_of units) folder.statuses (sources-right units)

  pub calls-right : are_calls_right program ≡ true
  calls-right =
      all-pass (has_right_calls program) right-calls (sources_of units) folder.statuses (sources-right units)

  pub sites-in_order : are_sites_in_order program ≡ true
  sites-in_order =
      all-pass is_in_order (λ s status right. sites-numbered (in_sequence (method_code folder s)) 0) (sources_of units)
      folder.statuses (sources-right units)

  pub entries-analysed : are_entries_analysed program ≡ true
  entries-analysed =
      all-pass (may_be_entry program) entry (sources_of units) folder.statuses (sources-right units)

  abbrev status_by : ℕ → Source → Option Reason
  status_by n s = status_of (declared_in containers units) (is_recursive (record { 0 = n })) s

  -- a method past the limit is not analysed
  large-some : (n : ℕ) (s : Source) (t : MethodTree) → s.body ≡ Spelled t →
      is_large (parameters_declared (entered folder s) t.parameters) t ≡ true → is_some (status_by n s) ≡ true
  large-some n s t is e =
      let d = declared_in containers units in
      let past : is_past_limit d s ≡ true =
      ap (is_past (entered d s)) is
      ∙ sym (ap (λ (c : Context). is_large c t) (parameters-blind folder.statuses (entered d s) t.parameters)) ∙ e in
      let last = option_or (where_so (is_past_limit d s) Operations)
      (where_so (is_recursive (record { 0 = n })) Recursive) in
      let locals = option_or (where_so (nat_lt MAX_LOCALS (local_count d s)) Locals) last in
      let many = option_or (where_so (nat_lt MAX_PARAMETERS (length s.info.parameters)) Parameters) locals in
      let outside = option_or (where_so (is_outside d s) Outside) many in
      some-behind (where_so (is_overloaded d.methods s.info) Overload) outside
      (some-behind (where_so (is_outside d s) Outside) many
      (some-behind (where_so (nat_lt MAX_PARAMETERS (length s.info.parameters)) Parameters) locals
      (some-behind (where_so (nat_lt MAX_LOCALS (local_count d s)) Locals) last
      (ap (λ b. is_some (option_or (where_so b Operations) (where_so (is_recursive (record { 0 = n })) Recursive)))
      past))))

  spelled-ends : (n : ℕ) (info : MethodInfo) (members : List Member) (t : MethodTree) (b : Bool) →
      let s : Source = record { info = info; members = members; body = Spelled t } in
      let inside = parameters_declared (entered folder s) t.parameters in
      is_large inside t ≡ b →
      (is_some (status_by n s)
      || not (can_end (numbered 0 (in_sequence (cond b [] (ended inside (spelled_code inside members t))))))) ≡ true
  spelled-ends n info members t true e =
      let s : Source = record { info = info; members = members; body = Spelled t } in
      ap (λ b. b || not (can_end (numbered 0 (in_sequence [])))) (large-some n s t refl e)
  spelled-ends n info members t false e =
      let s : Source = record { info = info; members = members; body = Spelled t } in
      let inside = parameters_declared (entered folder s) t.parameters in
      or_right (is_some (status_by n s))
      (not (can_end (numbered 0 (in_sequence (ended inside (spelled_code inside members t))))))
      (ap not (ended-ends inside (guards-parameters (entered folder s) t.parameters) (spelled_code inside members t)))

  ends : (n : ℕ) (info : MethodInfo) (members : List Member) (body : Body) →
      let s : Source = record { info = info; members = members; body = body } in
      ends_by_return (method_core folder s (status_by n s)) ≡ true
  ends n info members Default =
      let s : Source = record { info = info; members = members; body = Default } in
      or_right (is_some (status_by n s)) (not (can_end (method_core folder s (status_by n s)).code))
      (ap not (ended-ends (entered folder s) refl (made (fields_begun (entered folder s) members))))
  ends n info members (Spelled t) =
      let s : Source = record { info = info; members = members; body = Spelled t } in
      let inside = parameters_declared (entered folder s) t.parameters in
      spelled-ends n info members t (is_large inside t) refl
  ends n info members Unspelled =
      let s : Source = record { info = info; members = members; body = Unspelled } in
      ap (λ b. b || not (can_end (method_core folder s (status_by n s)).code))
      (outside-some (is_overloaded (declared_in containers units).methods info)
      (option_or (where_so (nat_lt MAX_PARAMETERS (length info.parameters)) Parameters)
      (option_or (where_so (nat_lt MAX_LOCALS (local_count (declared_in containers units) s)) Locals)
      (option_or (where_so (is_past_limit (declared_in containers units) s) Operations)
      (where_so (is_recursive (record { 0 = n })) Recursive)))))

  all-end : (sources : List Source) (n : ℕ) →
      list_all ends_by_return
      (method_cores folder sources (statuses_from (declared_in containers units) is_recursive n sources)) ≡ true
  all-end [] n = refl
  all-end (s ∷ sources) n =
      and_from (ends_by_return (method_core folder s (status_by n s))) _ (ends n s.info s.members s.body)
      (all-end sources (suc n))

  pub ends-by_return : do_end_by_return program ≡ true
  ends-by_return = all-end (sources_of units) 0

  few : (n : ℕ) (s : Source) → has_few_parameters (method_core folder s (status_by n s)) ≡ true
  few n s =
      few-or_reason (is_overloaded (declared_in containers units).methods s.info)
      (is_outside (declared_in containers units) s) (length s.info.parameters)
      (option_or (where_so (nat_lt MAX_LOCALS (local_count (declared_in containers units) s)) Locals)
      (option_or (where_so (is_past_limit (declared_in containers units) s) Operations)
      (where_so (is_recursive (record { 0 = n })) Recursive)))

  all-few : (sources : List Source) (n : ℕ) →
      list_all has_few_parameters
      (method_cores folder sources (statuses_from (declared_in containers units) is_recursive n sources)) ≡ true
  all-few [] n = refl
  all-few (s ∷ sources) n =
      and_from (has_few_parameters (method_core folder s (status_by n s))) _ (few n s) (all-few sources (suc n))

  pub parameters-few : are_parameters_few program ≡ true
  parameters-few = all-few (sources_of units) 0
