use Rattle.std.proofs.Common.{◌≡◌, ◌+◌, ◌-◌, ◌*◌, ◌≤◌, length, take, drop, sym, ◌∙◌, subst, ap₂, arith, length-drop, length-take}
use Rattle.letter.specs.Full.{means}
use Rattle.psl.specs.Named.{Like}
use Rattle.psl.specs.Syntax.{atom}
use Rattle.truth.specs.Rows.{letter_of, named}
use Rattle.truth.proofs.Places.{row_before, row_here, length_written}
use Rattle.truth.proofs.read.write_place.Goals as goal

pub returns : goal.returns
returns g c =
    let u = c.args.own.now in
    let v = c.args.other.now in
    let x = c.write_letter.new.own in
    let y = c.write_letter.new.other in
    let k = c.args.k in
    let room : k * 33 + 33 ≤ length u = omega arith in
    let room_other : k * 33 + 33 ≤ length v = omega arith in
    let cut : length (take ((k * 33 + 33) - k * 33) (drop (k * 33) u)) ≡ 33 = simp (length-take, length-drop) (omega arith) in
    let cut_other : length (take ((k * 33 + 33) - k * 33) (drop (k * 33) v)) ≡ 33 = simp (length-take, length-drop) (omega arith) in
    let long : length x ≡ 33 = c.write_letter.ensures.len ∙ cut in
    let long_other : length y ≡ 33 = c.write_letter.ensures.len_other ∙ cut_other in
    record {
      items =
          subst (λ m. Like atom (named c.args.entries.now) m (means g.K.Kind.atoms g.K.Kind.mirrored c.args.letter.now))
          (sym (ap₂ letter_of (row_here u x k long room) (row_here v y k long_other room_other))) c.write_letter.ensures.items;
      same = row_before u x k long room;
      same_other = row_before v y k long_other room_other;
      len = length_written u x k long room;
      len_other = length_written v y k long_other room_other;
    }
