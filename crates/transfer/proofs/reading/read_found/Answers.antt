use Rattle.std.proofs.Common.{◌≤◌, List, length, sym, ap, subst, ◌∙◌}
use Rattle.racer_base.specs.declared.limits.TheConstants.{MAX_SUMMARY_KEYS}
use Rattle.access_domain.specs.declared.numbered.NumberedAccess.{NumberedAccess}
use Rattle.access_domain.specs.Numbered.{read_accesses}
use Rattle.access_domain.specs.Records.{IsWithin}
use Rattle.call_subst.specs.Numbered.{read_set}
use Rattle.transfer.proofs.ReadPaths.{IsWithin-read}
use Rattle.transfer.proofs.reading.read_found.Goals as goal

pub from_vec-records-requires : goal.from_vec-records-requires
from_vec-records-requires c =
    let table = c.args.table.now in
    let records = c.args.found.records in
    let read = c.in_ok-records.ensures
    ∙ ap (read_accesses table) (c.as_slice.ensures.value ∙ c.into_vec.ensures.records) in
    subst IsWithin (sym read)
    (IsWithin-read table records c.requires.firsts
    (subst (λ (rs : List NumberedAccess). length rs ≤ MAX_SUMMARY_KEYS) c.into_vec.ensures.records
    c.into_vec.ensures.limit))

pub returns : goal.returns
returns c =
    let table = c.args.table.now in
    let found = c.args.found in
    let records =
    c.from_vec-records.ensures ∙ c.in_ok-records.ensures
    ∙ ap (read_accesses table) (c.as_slice.ensures.value ∙ c.into_vec.ensures.records) in
    let wobbly = c.in_ok-wobbly.ensures ∙ ap (read_set table) c.as_slice-2.ensures.keys in
    (λ i. record { records = records i; wobbly = wobbly i; result = c.in_ok-result.ensures i })
