use Rattle.std.proofs.Common.{rules, ◌*ℤ◌, w64, FitsSigned}
use Rattle.whole.specs.Room.{room}
use mir.Facts.{to_z-of_z}
use Rattle.plane.proofs.Span.cross.Goals as goal

pub overflow_sub-result : goal.overflow_sub-result
overflow_sub-result c =
    let p : FitsSigned w64 (c.args.self.x *ℤ c.args.v.y) = search (rules, room) in
    let q : FitsSigned w64 (c.args.v.x *ℤ c.args.self.y) = search (rules, room) in
    let a : FitsSigned w64 c.args.self.x = search (rules, room) in
    let b : FitsSigned w64 c.args.v.y = search (rules, room) in
    let d : FitsSigned w64 c.args.v.x = search (rules, room) in
    let e : FitsSigned w64 c.args.self.y = search (rules, room) in
    rw (to_z-of_z a, to_z-of_z b, to_z-of_z d, to_z-of_z e, to_z-of_z p, to_z-of_z q) (search (rules, room))

pub returns : goal.returns
returns c =
    let s = overflow_sub-result c in
    let p : FitsSigned w64 (c.args.self.x *ℤ c.args.v.y) = search (rules, room) in
    let q : FitsSigned w64 (c.args.v.x *ℤ c.args.self.y) = search (rules, room) in
    let a : FitsSigned w64 c.args.self.x = search (rules, room) in
    let b : FitsSigned w64 c.args.v.y = search (rules, room) in
    let d : FitsSigned w64 c.args.v.x = search (rules, room) in
    let e : FitsSigned w64 c.args.self.y = search (rules, room) in
    rw (to_z-of_z s, to_z-of_z a, to_z-of_z b, to_z-of_z d, to_z-of_z e, to_z-of_z p, to_z-of_z q)
