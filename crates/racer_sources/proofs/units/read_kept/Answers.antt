use Rattle.std.proofs.Common.{ℕ, ◌+◌, ◌<◌, ◌≤◌, List, Vec, Global, get_or, length, ap, sym, subst, ◌∙◌, arith}
use Rattle.racer_base.specs.declared.limits.TheConstants.{MAX_FILE_BYTES}
use Rattle.racer_sources.specs.Reading.{IsAdded, IsFileFault, next_file}
use Rattle.racer_sources.proofs.Added.{counted_more, somehow_more}
use Rattle.racer_sources.proofs.Faults.{file_never_fails}
use Rattle.racer_sources.proofs.ReadContents.{some_unit, leads_bytes, refused_bytes, all_bytes_read}
use Rattle.racer_sources.proofs.units.read_kept.Goals as goal

pub add_bytes-requires-clause-most : goal.add_bytes-requires-clause-most
add_bytes-requires-clause-most c =
    let item = c.bytes-item.result in
    let i = c.loop-bytes.bytes-index in
    let same = c.deref-bytes-items.ensures.value in
    subst (λ (bs : List ℕ). length bs ≤ MAX_FILE_BYTES + 1)
    (sym (c.as_slice.ensures.value ∙ ap (λ (content : Vec ℕ Global). content.items)
    (c.bytes-item.is ∙ ap (λ (xs : List (Vec ℕ Global)). get_or xs i item) same)))
    (c.args.files.now.in_limits.most i item
    (subst (λ (xs : List (Vec ℕ Global)). i < length xs) same c.loop-bytes-test.true))

pub loop-bytes-preserved : goal.loop-bytes-preserved
loop-bytes-preserved c =
    let contents = c.args.files.now.contents.items in
    let item = c.bytes-item.result in
    let i = c.loop-bytes.bytes-index in
    let before = c.loop-bytes.invariant in
    let same = c.deref-bytes-items.ensures.value in
    let old = c.loop-bytes.read in
    let new = c.add_bytes.new.read in
    let added = subst (λ (bs : List ℕ). IsAdded bs old new) c.as_slice.ensures.value c.in_default.ensures.added in
    let any = some_unit item.items old new added in
    record {
      few = c.in_default.ensures.few;
      counted = counted_more old new i before.counted any;
      any = somehow_more old new before.any any;
      leads = leads_bytes contents i item
          (subst (λ (xs : List (Vec ℕ Global)). i < length xs) same c.loop-bytes-test.true)
          (c.bytes-item.is ∙ ap (λ (xs : List (Vec ℕ Global)). get_or xs i item) same) old new before.leads added;
    }

pub returns-clause-read : goal.returns-clause-read
returns-clause-read c =
    all_bytes_read c.args.files.now.contents.items c.loop-bytes.bytes-index c.loop-bytes.read
    (let h = c.loop-bytes-test.false in omega arith) c.loop-bytes.invariant.leads

pub returns-in-Err-clause-refused : goal.returns-in-Err-clause-refused
returns-in-Err-clause-refused c =
    let read = c.loop-bytes.read in
    let fault = c.in-Err.fault in
    let i = c.loop-bytes.bytes-index in
    let item = c.bytes-item.result in
    let same = c.deref-bytes-items.ensures.value in
    refused_bytes c.args.files.now.contents.items i item
    (subst (λ (xs : List (Vec ℕ Global)). i < length xs) same c.loop-bytes-test.true)
    (c.bytes-item.is ∙ ap (λ (xs : List (Vec ℕ Global)). get_or xs i item) same) read fault c.loop-bytes.invariant.leads
    (subst (λ (bs : List ℕ). IsFileFault (next_file read) (read.sum + length bs) bs fault) c.as_slice.ensures.value
    c.in-Err.ensures.fault)

pub returns-in-Err-clause-never : goal.returns-in-Err-clause-never
returns-in-Err-clause-never c =
    let read = c.loop-bytes.read in
    let bytes = c.as_slice.result.now in
    file_never_fails (next_file read) (read.sum + length bytes) bytes c.in-Err.fault c.in-Err.ensures.fault
