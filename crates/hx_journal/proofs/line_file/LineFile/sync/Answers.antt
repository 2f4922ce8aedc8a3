use Rattle.std.proofs.Common.{◌≡◌, ◌++◌, ◌+◌, length, List, ℕ, sym, ◌∙◌, ap, subst, arith, length-append, vec_len, rules}
use Rattle.hx_journal.specs.Lines.{lines_of, text_of}
use Rattle.hx_journal.specs.Files.{IsAtRest}
use Rattle.hx_journal.proofs.Groups.{few, few_stored}
use Rattle.hx_journal.proofs.line_file.LineFile.sync.Goals as goal

pub overflow_add-self-2 : goal.overflow_add-self-2
overflow_add-self-2 g c =
    let s = c.self.invariant c.if-not-self.false in
    let f = few c.self.inside.group.items s.group_is in
    let e = few_stored (g.D.Device.seen c.self.inside.device) c.self.inside.end s.file in
    let long : vec_len c.self.inside.group ≡ length c.self.inside.group.items = search rules in
    omega (arith, s.waiting, s.count, s.small, f, e, long)

pub invariant_of-self-2 : goal.invariant_of-self-2
invariant_of-self-2 g c = λ _.
    let s = c.self.invariant c.if-not-self.false in
    let lines : c.deref.result.now ≡ c.self.inside.group.items = c.deref.ensures.value in
    let done = c.in_ok-store.ensures in
    let long : vec_len c.self.inside.group ≡ length c.self.inside.group.items = search rules in
    let here : c.self.inside.end + length c.deref.result.now ≡ c.self.inside.end + c.len.result = omega (arith, long, c.len.ensures, ap length lines) in
    let stored : lines_of (g.D.Device.seen c.store.new.device) ≡ lines_of (g.D.Device.seen c.self.inside.device) ++ lines_of c.self.inside.group.items =
    done.stored ∙ ap (λ (l : List ℕ). lines_of (g.D.Device.seen c.self.inside.device) ++ lines_of l) lines in
    record {
      file = subst (λ n. IsAtRest (g.D.Device.seen c.store.new.device) n) here done.at_rest;
      durable = done.durable;
      well = done.well;
      group_is = c.clear.ensures.items ∙ ap (λ (l : List ℕ). text_of (lines_of l)) (sym c.clear.ensures.items);
      count = omega (arith, s.count, s.waiting, ap length stored, length-append (lines_of (g.D.Device.seen c.self.inside.device)) (lines_of c.self.inside.group.items));
      waiting = sym (ap (λ (l : List ℕ). length (lines_of l)) c.clear.ensures.items);
      small = omega (arith, s.small, c.len.ensures, c.clear.ensures.len);
    }
