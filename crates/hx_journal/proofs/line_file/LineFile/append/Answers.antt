use Rattle.std.proofs.Common.{◌≡◌, ◌++◌, ◌+◌, ◌∷◌, [], length, List, ℕ, sym, ◌∙◌, ap, arith, length-append, vec_len, rules}
use Rattle.hx_journal.specs.Lines.{lines_of, text_of}
use Rattle.hx_journal.proofs.Groups.{one_more, still_lines, few}
use Rattle.hx_journal.proofs.line_file.LineFile.append.Goals as goal

pub overflow_add-self : goal.overflow_add-self
overflow_add-self g c =
    let s = c.self.invariant c.if-not-self.false in
    let f = few c.self.inside.group.items s.group_is in
    let long : vec_len c.self.inside.group ≡ length c.self.inside.group.items = search rules in
    omega (arith, s.waiting, s.small, f, long)

pub invariant_of-self-2 : goal.invariant_of-self-2
invariant_of-self-2 g c = λ is.
    let s = c.self.invariant is in
    let more = one_more c.self.inside.group.items c.args.bytes.now s.group_is c.requires in
    let still = still_lines c.self.inside.group.items c.args.bytes.now s.group_is c.requires in
    let now = c.in_ok-push_line.ensures.ok in
    let long : vec_len c.push_line.new.lines ≡ length c.push_line.new.lines.items = search rules in
    let was : vec_len c.self.inside.group ≡ length c.self.inside.group.items = search rules in
    let size : length c.push_line.new.lines.items ≡ length c.self.inside.group.items + length c.args.bytes.now + 1 =
    omega (arith, ap length now, length-append (c.self.inside.group.items ++ c.args.bytes.now) (10 ∷ []), length-append c.self.inside.group.items c.args.bytes.now) in
    record {
      file = s.file;
      durable = s.durable;
      well = s.well;
      group_is = now ∙ still ∙ ap (λ (l : List ℕ). text_of (lines_of l)) (sym now);
      count = s.count;
      waiting = omega (arith, s.waiting, ap length (ap lines_of now ∙ more), length-append (lines_of c.self.inside.group.items) (c.args.bytes.now ∷ []));
      small = omega (arith, long, was, size, s.small, c.if-free-bytes.false, c.len.ensures);
    }

pub returns-clause-added : goal.returns-clause-added
returns-clause-added g c =
    let s = c.self.invariant c.if-not-self.false in (
      sym (ap (λ j. j.is_open) c.self.view_is) ∙ c.if-not-self.false,
      ap lines_of c.in_ok-push_line.ensures.ok ∙ one_more c.self.inside.group.items c.args.bytes.now s.group_is c.requires
          ∙ ap (λ j. j.waiting ++ c.args.bytes.now ∷ []) c.self.view_is,
    )
