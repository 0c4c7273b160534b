use Rattle.std.proofs.Common.{◌≡◌, [], ◌∷◌, ◌++◌, length, arith, sym, ap, ◌∙◌}
use Rattle.line_input.proofs.Fronts.{front_grows, front_stays}
use Rattle.line_input.proofs.line_room.LineRoom.push.Goals as goal

pub returns-then-len-lt-MOST_LINE : goal.returns-then-len-lt-MOST_LINE
returns-then-len-lt-MOST_LINE c =
    let room : length c.args.self.now ≡ c.len.result = ap length (sym c.self.view_is) ∙ (sym c.self.inside.bytes.ok.0 ∙ sym c.len.ensures) in
    front_grows 65536 c.args.byte c.args.self.now c.push_reserved.new.self.items (omega (arith, room)) (c.push_reserved.ensures.items ∙ ap (λ bytes. bytes ++ c.args.byte ∷ []) c.self.view_is)

pub returns-else-len-lt-MOST_LINE : goal.returns-else-len-lt-MOST_LINE
returns-else-len-lt-MOST_LINE c =
    let room : length c.args.self.now ≡ c.len.result = ap length (sym c.self.view_is) ∙ (sym c.self.inside.bytes.ok.0 ∙ sym c.len.ensures) in
    front_stays 65536 c.args.byte c.args.self.now (omega (arith, room, c.self.invariant))
