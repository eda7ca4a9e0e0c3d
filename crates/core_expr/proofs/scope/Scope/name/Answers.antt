use Rattle.std.proofs.Common.{◌∙◌, ap, Some, None}
use Rattle.core_expr.specs.Held.{place_of}
use Rattle.core_expr.specs.Places.{as_name}
use Rattle.core_expr.proofs.OwnParts.{locals_are, upvalue_names_are, got, got_of, local_is}
use Rattle.core_expr.proofs.scope.Scope.name.Goals as goal

pub returns-in_err-local-in-Local : goal.returns-in_err-local-in-Local
returns-in_err-local-in-Local c =
    let scope = c.args.self.now in
    rw (c.from_residual-in_err-local-in-Local.ensures, c.in-Local.is)
    (local_is (place_of scope) c.in-Local.register c.in_ok-entry-in-Local.entry.now None (got scope.entries.now c.in-Local.register (Some c.in_ok-entry-in-Local.entry) c.in_ok-entry-in-Local.ensures.lookup)
    (got_of c.in_ok-entry-in-Local.entry.now None c.in_err-local-in-Local.ensures.lookup (c.items.ensures ∙ locals_are scope.proto.now)))

pub returns-in_err-name-in-Upvalue : goal.returns-in_err-name-in-Upvalue
returns-in_err-name-in-Upvalue c =
    rw (c.from_residual-in_err-name-in-Upvalue.ensures, c.in-Upvalue.is)
    (ap as_name (got_of c.in-Upvalue.number None c.in_err-name-in-Upvalue.ensures.lookup (c.items-in-Upvalue.ensures ∙ upvalue_names_are c.args.self.now.proto.now)))

pub returns-in_ok-local-in-Local : goal.returns-in_ok-local-in-Local
returns-in_ok-local-in-Local c =
    let scope = c.args.self.now in
    let local = c.in_ok-local-in-Local.local in
    rw c.in-Local.is
    (c.named.ensures ∙ local_is (place_of scope) c.in-Local.register c.in_ok-entry-in-Local.entry.now (Some local.now) (got scope.entries.now c.in-Local.register (Some c.in_ok-entry-in-Local.entry) c.in_ok-entry-in-Local.ensures.lookup)
    (got_of c.in_ok-entry-in-Local.entry.now (Some local) c.in_ok-local-in-Local.ensures.lookup (c.items.ensures ∙ locals_are scope.proto.now)))

pub returns-in_ok-name-in-Upvalue : goal.returns-in_ok-name-in-Upvalue
returns-in_ok-name-in-Upvalue c =
    rw c.in-Upvalue.is
    (c.named-in-Upvalue.ensures ∙ ap as_name (got_of c.in-Upvalue.number (Some c.in_ok-name-in-Upvalue.name) c.in_ok-name-in-Upvalue.ensures.lookup (c.items-in-Upvalue.ensures ∙ upvalue_names_are c.args.self.now.proto.now)))
