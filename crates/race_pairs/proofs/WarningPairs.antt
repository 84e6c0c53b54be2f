-- Each warning is a pair of records that conflict.
use Rattle.std.proofs.Common.{◌≡◌, ℕ, ◌+◌, true, false, cond, [], None, Some, option_map, slice_get, nat_eq}
use Rattle.std.proofs.Common.{refl, sym, ap, subst, ◌∙◌, arith}
use borrow.Author.Tests.{eqb-true}
use Rattle.std.specs.List.{Contains, enumerate_from, find}
use Rattle.std.proofs.lemmas.Bool.{and_parts}
use Rattle.racer_base.specs.declared.ids.ClassId.{ClassId}
use Rattle.racer_base.specs.declared.ids.MethodId.{MethodId}
use Rattle.core_code.specs.Core.{Core, Method}
use Rattle.core_code.specs.declared.parts.ClassCore.{ClassCore}
use Rattle.race_pairs.specs.declared.warning.Warning.{Warning}
use Rattle.race_pairs.specs.Warnings.{MethodRecord, conflicts, numbered_record, numbered_records, is_entry_of}
use Rattle.access_domain.specs.OutcomeRecords.{records_of}
use Rattle.race_pairs.specs.Warnings.{entry_records, records_in, warning_of, warning_among, warnings_among}
use Rattle.race_pairs.specs.Warnings.{class_warnings, warnings}
use Rattle.race_pairs.specs.Pairs.{IsRecord, IsPair}
use Rattle.core_code.proofs.Membership.{In, in_from_Contains, in_flat_map, in_filter_map, in_map, in_enumerate_from}
use Rattle.core_code.proofs.Membership.{find_gives}

pub class_of_number : (c d : ClassId) → nat_eq c.0 d.0 ≡ true → c ≡ d
class_of_number c d h = ap (λ (n : ℕ). let made : ClassId = record { 0 = n } in made) (eqb-true c.0 d.0 h)

-- a record that is listed for a class is one of an entry of it
pub listed_record : (core : Core) (c : ClassId) (p : MethodRecord) → In (records_in core c) p →
    IsRecord core c p.method p.index p.access
listed_record core c p h =
    let found = in_flat_map (entry_records core c) (enumerate_from 0 core.methods) p h in
    let e : ℕ × Method = found.0 in
    let at = in_enumerate_from 0 core.methods e found.1 in
    let same_index : at.0 ≡ e.0 = let is : e.0 ≡ 0 + at.0 = at.1 in omega arith in
    let number : MethodId = record { 0 = e.0 } in
    elim (is_entry_of c e.1)
    as (λ b. is_entry_of c e.1 ≡ b → In (cond b (numbered_records number (records_of core number)) []) p →
    IsRecord core c p.method p.index p.access) [
      | true ↦ λ test listed.
          let tests = and_parts e.1.entry (nat_eq e.1.class.0 c.0) test in
          let from = in_map (numbered_record number) (enumerate_from 0 (records_of core number)) p listed in
          let index = in_enumerate_from 0 (records_of core number) from.0 from.1 in
          let index_is : index.0 ≡ from.0.0 = let is : from.0.0 ≡ 0 + index.0 = index.1 in omega arith in
          let made : IsRecord core c number from.0.0 from.0.1 = record {
            method = e.1;
            is = ap (slice_get core.methods) (sym same_index) ∙ at.2;
            entry = tests.0;
            class = class_of_number e.1.class c tests.1;
            has = ap (slice_get (records_of core number)) (sym index_is) ∙ index.2;
          } in
          subst (λ (q : MethodRecord). IsRecord core c q.method q.index q.access) from.2 made
      | false ↦ λ test listed. absurd listed
    ] refl found.2

pub listed_warning : (core : Core) (w : Warning) → In (warnings core) w → IsPair core w
listed_warning core w h =
    let found = in_flat_map (class_warnings core) (enumerate_from 0 core.classes) w h in
    let e : ℕ × ClassCore = found.0 in
    let at = in_enumerate_from 0 core.classes e found.1 in
    let same_index : at.0 ≡ e.0 = let is : e.0 ≡ 0 + at.0 = at.1 in omega arith in
    let c : ClassId = record { 0 = e.0 } in
    elim e.1.checked
    as (λ b. e.1.checked ≡ b → In (cond b (warnings_among c (records_in core c)) []) w → IsPair core w) [
      | true ↦ λ checked listed.
          let from = in_filter_map (warning_among c (records_in core c)) (records_in core c) w listed in
          let first : MethodRecord = from.0 in
          elim (find (λ partner. conflicts first.access partner.access) (records_in core c))
          as (λ o. find (λ partner. conflicts first.access partner.access) (records_in core c) ≡ o →
          option_map (warning_of c first) o ≡ Some w → IsPair core w) [
            | None ↦ λ e none. cc
            | Some partner ↦ λ e some.
                let is : warning_of c first partner ≡ w = cc in
                let gives = find_gives (λ (q : MethodRecord). conflicts first.access q.access)
                (records_in core c) partner e in
                let made : IsPair core (warning_of c first partner) = record {
                  first = first.access;
                  partner = partner.access;
                  checked = record {
                    class = found.0.1;
                    is =
                        ap (slice_get core.classes) (sym same_index) ∙ at.2;
                    checked = checked;
                  };
                  of_entry = listed_record core c first from.1;
                  of_partner = listed_record core c partner gives.0;
                  conflict = gives.1;
                } in
                subst (IsPair core) is made
          ] refl from.2
      | false ↦ λ checked listed. absurd listed
    ] refl found.2

pub warning_is_pair : (core : Core) (w : Warning) → Contains (warnings core) w → IsPair core w
warning_is_pair core w h = listed_warning core w (in_from_Contains (warnings core) w h.0 h.1 h.2)
