use Rattle.std.proofs.Common.{ℕ, ◌-◌, List, rules, arith, sym, subst}
use Rattle.http1.specs.Decoder.{decoder_for}
use Rattle.hx_etcd.specs.Connections.{Comes, IsBodyFault}
use Rattle.hx_etcd.specs.Pieces.{IsPieceOf, HasBadPiece}
use Rattle.hx_etcd.specs.Responses.{limits}
use Rattle.hx_etcd.proofs.Streams.{Goes, body_ends, body_goes_on, too_much, bad_body, no_body}
use Rattle.hx_etcd.proofs.inlet.Inlet.next_body.Goals as goal

pub returns-in_err-piece-clause-err : goal.returns-in_err-piece-clause-err
returns-in_err-piece-clause-err g c =
    let bad = subst (λ (l : List ℕ). HasBadPiece c.pieces.decoder l c.in_err-piece.field-0.0) c.deref.ensures.value c.in_err-piece.ensures.err in
    let fault : IsBodyFault (g.R.Read.remaining c.args.self.now.reader) (g.R.Read.remaining c.pieces.self.reader) c.args.self.now.unread.items c.args.head.now.framing c.in_err-piece.field-0.0 =
    bad_body _ _ c.args.head.now.framing c.pieces.decoder _ c.pieces.self.unread.items c.pieces.body.items c.pieces.left c.in_err-piece.field-0.0 c.pieces.invariant bad in
    search (rules, fault)

pub returns-then-piece-clause-ok : goal.returns-then-piece-clause-ok
returns-then-piece-clause-ok g c =
    let is = subst (λ (l : List ℕ). IsPieceOf c.pieces.decoder l c.read_piece.new.decoder c.pieces.body.items c.read_piece.new.body.items c.in_ok-piece.piece) c.deref.ensures.value c.in_ok-piece.ensures.ok in
    let comes = subst (λ (r : g.row.R.Denot). Comes (g.R.Read.remaining c.args.self.now.reader) (g.R.Read.remaining r) c.args.self.now.unread.items c.pieces.invariant.all) (sym c.in_ok-drop_front.ensures.reader) c.pieces.invariant.comes in
    body_ends _ _ c.args.head.now.framing c.pieces.decoder c.read_piece.new.decoder _ c.pieces.invariant.all c.pieces.self.unread.items _ c.pieces.body.items _ c.in_ok-piece.piece comes c.pieces.invariant.waits is c.if-piece.true c.in_ok-drop_front.ensures.rest

pub returns-in_err-count-clause-err : goal.returns-in_err-count-clause-err
returns-in_err-count-clause-err g c =
    let is = subst (λ (l : List ℕ). IsPieceOf c.pieces.decoder l c.read_piece.new.decoder c.pieces.body.items c.read_piece.new.body.items c.in_ok-piece.piece) c.deref.ensures.value c.in_ok-piece.ensures.ok in
    let goes = subst (λ (r : g.row.R.Denot). Goes (g.R.Read.remaining c.args.self.now.reader) (g.R.Read.remaining r) (decoder_for limits c.args.head.now.framing) c.pieces.decoder c.args.self.now.unread.items c.pieces.self.unread.items c.pieces.body.items c.pieces.left) (sym c.in_ok-drop_front.ensures.reader) c.pieces.invariant in
    let fault : IsBodyFault (g.R.Read.remaining c.args.self.now.reader) (g.R.Read.remaining c.fill.new.self.reader) c.args.self.now.unread.items c.args.head.now.framing c.in_err-count.field-0.0 =
    no_body _ _ _ c.args.head.now.framing c.pieces.decoder c.read_piece.new.decoder _ c.pieces.self.unread.items c.pieces.body.items _ c.in_ok-piece.piece c.pieces.left c.in_err-count.field-0.0 goes is c.if-piece.false c.in_err-count.ensures.err in
    search (rules, fault)

pub returns-then-count-left-clause-err : goal.returns-then-count-left-clause-err
returns-then-count-left-clause-err g c =
    let goes = subst (λ (r : g.row.R.Denot). Goes (g.R.Read.remaining c.args.self.now.reader) (g.R.Read.remaining r) (decoder_for limits c.args.head.now.framing) c.pieces.decoder c.args.self.now.unread.items c.pieces.self.unread.items c.pieces.body.items c.pieces.left) (sym c.in_ok-drop_front.ensures.reader) c.pieces.invariant in
    too_much _ _ _ _ c.pieces.decoder _ c.pieces.self.unread.items c.drop_front.new.self.unread.items c.fill.new.self.unread.items c.pieces.body.items c.pieces.left c.in_ok-count.count goes c.in_ok-count.ensures.ok c.if-count-left.true

pub pieces-preserved : goal.pieces-preserved
pieces-preserved g c =
    let is = subst (λ (l : List ℕ). IsPieceOf c.pieces.decoder l c.read_piece.new.decoder c.pieces.body.items c.read_piece.new.body.items c.in_ok-piece.piece) c.deref.ensures.value c.in_ok-piece.ensures.ok in
    let goes = subst (λ (r : g.row.R.Denot). Goes (g.R.Read.remaining c.args.self.now.reader) (g.R.Read.remaining r) (decoder_for limits c.args.head.now.framing) c.pieces.decoder c.args.self.now.unread.items c.pieces.self.unread.items c.pieces.body.items c.pieces.left) (sym c.in_ok-drop_front.ensures.reader) c.pieces.invariant in
    body_goes_on _ _ _ _ c.pieces.decoder c.read_piece.new.decoder _ c.pieces.self.unread.items c.drop_front.new.self.unread.items c.fill.new.self.unread.items c.pieces.body.items c.read_piece.new.body.items c.in_ok-piece.piece c.pieces.left c.in_ok-count.count (c.pieces.left - c.in_ok-count.count) goes is c.if-piece.false c.in_ok-drop_front.ensures.rest c.in_ok-count.ensures.ok (omega arith)
