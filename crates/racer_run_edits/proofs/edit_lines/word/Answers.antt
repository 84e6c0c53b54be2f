use Rattle.std.proofs.Common.{◌≡◌, ◌<◌, ◌≤◌, ℕ, length, subst, arith}
use Rattle.std.proofs.lemmas.Bool.{false_from_ne_true}
use Rattle.std.proofs.lemmas.Str.{is_utf8-from_IsUtf8, IsUtf8-from_is_utf8}
use Rattle.std.specs.Str.{is_utf8}
use Rattle.racer_run_edits.specs.EditLines.{byte_is}
use Rattle.racer_run_edits.proofs.EditLines.{no_spaced_word, no_unread_word, one_word, some_first, none_first}
use Rattle.racer_run_edits.proofs.edit_lines.word.Goals as goal

pub returns-then-first_of-bytes : goal.returns-then-first_of-bytes
returns-then-first_of-bytes c =
    let bytes = c.args.bytes.now in
    no_spaced_word bytes (some_first (byte_is 32) bytes
    (subst (λ (n : ℕ). n < length bytes) c.first_of.ensures.place c.if-first_of-bytes.true))

pub returns-in-Ok : goal.returns-in-Ok
returns-in-Ok c =
    let bytes = c.args.bytes.now in (
      one_word bytes (grind (arith, c.if-is_empty.false, c.if-is_empty.ensures)) (none_first (byte_is 32) bytes
          (subst (λ (n : ℕ). length bytes ≤ n) c.first_of.ensures.place c.if-first_of-bytes.false))
          (is_utf8-from_IsUtf8 bytes c.in-Ok.ensures.cases.1),
      c.in-Ok.ensures.cases.0,
    )

pub returns-in-Err : goal.returns-in-Err
returns-in-Err c =
    let bytes = c.args.bytes.now in
    no_unread_word bytes (false_from_ne_true (is_utf8 bytes)
    (λ h. c.in-Err.ensures.cases.0 (IsUtf8-from_is_utf8 bytes h)))
