use Rattle.std.proofs.Common.{◌∙◌, sym, arith}
use Rattle.java_lexer.proofs.Calm.{white_front, word_front}
use Rattle.java_lexer.proofs.JavaScans.{number_front, sign_front, no_token}
use Rattle.java_lexer.proofs.Marks.{mark_front}
use Rattle.java_lexer.proofs.scan.next_piece.Goals as goal

pub returns-then-is_white : goal.returns-then-is_white
returns-then-is_white c = rw c.in-Some.ensures.cases.0
    (white_front c.in-Some.first.now c.in-Some.rest.now (sym c.is_white.ensures ∙ c.if-is_white.true))

pub returns-then-is_letter : goal.returns-then-is_letter
returns-then-is_letter c =
    rw (c.word_kind.ensures, c.split_at.ensures.front, c.word_len-len.ensures.gives, c.in-Some.ensures.cases.0)
    (word_front c.in-Some.first.now c.in-Some.rest.now (sym c.is_letter.ensures ∙ c.if-is_letter.true))

pub returns-then-is_mark : goal.returns-then-is_mark
returns-then-is_mark c = rw c.in-Some.ensures.cases.0
    (mark_front c.in-Some.first.now c.in-Some.rest.now (sym c.is_mark.ensures ∙ c.if-is_mark.true))

pub returns-then-begins_number : goal.returns-then-begins_number
returns-then-begins_number c =
    let begins = sym c.begins_number.ensures ∙ c.if-begins_number.true in
    rw (c.number_len-len.ensures.gives, c.begins_hex.ensures, c.in-Some.ensures.cases.0)
    (number_front c.in-Some.first.now c.in-Some.rest.now (rw c.in-Some.ensures.cases.0 at begins))

pub returns-in-Some-sign_len : goal.returns-in-Some-sign_len
returns-in-Some-sign_len c =
    let whole = c.in-Some.ensures.cases.0 in
    let fits = rw whole at (c.type_inv.bytes 0) in
    let number = sym c.begins_number.ensures ∙ c.if-begins_number.false in
    let line = sym c.starts_with.ensures.value ∙ c.if-starts_with.false in
    let block = sym c.starts_with-2.ensures.value ∙ c.if-starts_with-2.false in
    let len = sym c.in-Some-sign_len.ensures in
    rw whole (sign_front c.in-Some.first.now c.in-Some.rest.now (omega arith)
    (sym c.is_white.ensures ∙ c.if-is_white.false) (sym c.is_letter.ensures ∙ c.if-is_letter.false)
    (rw whole at number) c.if-first-eq34.false c.if-first-eq39.false (rw whole at line)
    (rw whole at block) c.in-Some-sign_len.len (rw whole at len))

pub returns-in-None : goal.returns-in-None
returns-in-None c =
    let whole = c.in-Some.ensures.cases.0 in
    let fits = rw whole at (c.type_inv.bytes 0) in
    let number = sym c.begins_number.ensures ∙ c.if-begins_number.false in
    let line = sym c.starts_with.ensures.value ∙ c.if-starts_with.false in
    let block = sym c.starts_with-2.ensures.value ∙ c.if-starts_with-2.false in
    let len = sym c.in-None.ensures in
    rw whole (no_token c.in-Some.first.now c.in-Some.rest.now (omega arith)
    (sym c.is_white.ensures ∙ c.if-is_white.false) (sym c.is_letter.ensures ∙ c.if-is_letter.false)
    (rw whole at number) c.if-first-eq34.false c.if-first-eq39.false (rw whole at line) (rw whole at block)
    (rw whole at len))
