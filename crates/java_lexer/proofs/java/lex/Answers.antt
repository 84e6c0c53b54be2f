use Rattle.std.proofs.Common.{◌≡◌, refl, true, false}
use Rattle.std.specs.Str.{is_utf8}
use Rattle.std.proofs.lemmas.Str.{is_utf8-from_IsUtf8, IsUtf8-from_is_utf8}
use Rattle.std.proofs.lemmas.Bool.{false_from_ne_true}
use Rattle.java_lexer.proofs.java.lex.Goals as goal

pub returns-in-Err-clause-err : goal.returns-in-Err-clause-err
returns-in-Err-clause-err c =
    let no : is_utf8 c.args.bytes.now ≡ false =
    false_from_ne_true (is_utf8 c.args.bytes.now)
    (λ h. c.in-Err.ensures.cases.0 (IsUtf8-from_is_utf8 c.args.bytes.now h)) in
    rw (no, c.valid_up_to.ensures, c.in-Err.ensures.valid_len) refl

pub returns-clause-ok : goal.returns-clause-ok
returns-clause-ok c =
    let yes : is_utf8 c.args.bytes.now ≡ true = is_utf8-from_IsUtf8 c.args.bytes.now c.in_default.ensures.cases.1 in
    rw yes c.divided.ensures.ok

pub returns-clause-err : goal.returns-clause-err
returns-clause-err c =
    let yes : is_utf8 c.args.bytes.now ≡ true = is_utf8-from_IsUtf8 c.args.bytes.now c.in_default.ensures.cases.1 in
    rw yes c.divided.ensures.err
