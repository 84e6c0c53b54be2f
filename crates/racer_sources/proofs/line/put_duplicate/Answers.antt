use Rattle.std.proofs.Common.{◌≡◌, ◌++◌, map, string_bytes, OnOk, subst, append_assoc, refl}
use Rattle.racer_sources.specs.Lines.{place_text, duplicate}
use Rattle.racer_sources.proofs.line.put_duplicate.Goals as goal

pub returns : goal.returns
returns c =
    let names = map string_bytes c.args.names.now in
    let all : string_bytes c.write.new.self ++ place_text names c.args.first
    ≡ string_bytes c.args.text.now ++ duplicate names c.args.what.now c.args.second c.args.first =
    simp (append_assoc, c.in_ok-write.ensures.bytes, c.in_ok-put_place.ensures) refl in
    subst (λ bytes. OnOk c.put_place-2.result (string_bytes c.put_place-2.new.text ≡ bytes)) all c.put_place-2.ensures
