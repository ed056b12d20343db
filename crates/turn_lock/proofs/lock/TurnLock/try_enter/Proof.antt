-- The call of `Pass::try_enter`, with the two parameters in the other order.
use Rattle.std.proofs.Common.{[], ◌∷◌, refl}
use mir.Syntax.{a_type, dcons, dnil, named}
use mir.Val.{Val}
use mir.MapTy.{inst_fn}
use base.Logic.{SProp, id⊢}
use base.Fml.{Fml, ftrue, fsep}
use types.Kit.{‵, raw, ◌⊛◌, some, later, ◌$◌, ◌∵◌, !, qed, by, move, drop, split, join, fsplit, fjoin, use1, pick, await}
use types.Run.{stop, addr, no_more, and_then, returns, enter}
use types.ByLocal.{alloc_all, pass_all, free_all, look_at, get, through, sets, lands_as}
use contract.Running.{tables}
use denote.Exit.{yes, no}
use denote.RattleType.{RattleType}
use denote.Signature.{type_at, plain, named_lft}
use denote.Steps.{nothing, peeks}
use denote.Laws.{Is, shows}
use denote.Param.{param, bounded}
use denote.Param.Laws.{param_laws}
use denote.Builtin.{RefOf, RefMutOf}
use denote.Ref.{mut_vals, mut_Tells, shr_vals, shr_Tells}
use denote.Triple.Entry.{alive, Args}
use denote.Triple.Spec.{triple_of}
use denote.Triple.Call.{calls_at}
use denote.Triple.Clauses.{Lasts, lasts, at_exit}
use denote.Triple.Walked.{Stays, stay_dropped, walk_of, Goes-dropped}
use Rattle.atomic_table.proofs.Walks.{proved, leaves}
use Rattle.atomic_table.proofs.Calls.{fm}
use Rattle.std.proofs.result.Result.TheLaws.{the_row_laws as result_laws}
use Rattle.turn_lock.proofs.lock.turn.Turn.TheLaws.{the_row_laws as turn_laws}
use Rattle.turn_lock.proofs.lock.Held.TheLaws.{the_row_laws as held_laws}
use Rattle.std.specs.contracts.result.Result.{the_row as result_row}
use Rattle.turn_lock.specs.contracts.lock.TurnLock.{the_row as lock_row}
use Rattle.turn_lock.specs.contracts.lock.Pass.{the_row as pass_row}
use Rattle.turn_lock.specs.contracts.lock.turn.Turn.{the_row as turn_row}
use Rattle.turn_lock.specs.contracts.lock.Held.{the_row as held_row}
use Rattle.turn_lock.specs.contracts.lock.TurnLock.try_enter.{ended, clauses}
use Rattle.turn_lock.specs.contracts.lock.TurnLock.try_enter.Key.{name as #self}
use Rattle.turn_lock.specs.contracts.lock.Pass.try_enter as f
use Rattle.turn_lock.proofs.lock.Pass.try_enter.Met.{met}
use Rattle.turn_lock.proofs.lock.TurnLock.try_enter.Statement.{statement}
use Rattle.turn_lock.proofs.lock.TurnLock.try_enter.Code as code

pub try_enter_spec : {M : Type 1} → statement M
try_enter_spec 𝓤 𝓛 𝓜 𝓡 wired X Y Z W LX LY LZ LW g d bound =
    let H = 𝓛.H in let 𝓣 = tables 𝓤 H 𝓜 𝓡 𝓡.env in let En = ended X Y Z W g d in let c = clauses X Y Z W g d 𝓛 𝓜.mem 𝓡.returns in
    let inst = bounded (a_type ∷ a_type ∷ a_type ∷ a_type ∷ []) (X, (Y, (Z, (W, tt)))) (dcons d dnil) in let fn = inst_fn inst code.function in
    let Lock : RattleType = lock_row (param 0 X) (param 1 Y) (param 2 Z) (param 3 W) g in let Pass : RattleType = pass_row (param 0 X) (param 1 Y) (param 2 Z) (param 3 W) in
    let lock = RefOf (0 ∷ []) tt (plain (λ _. Lock)) (λ _. tt) in let pass = RefMutOf (0 ∷ []) tt (plain (λ _. Pass)) (λ _. tt) in
    let hs : Stays En.signature.params En.kept = (stay_dropped lock yes, (stay_dropped pass no, tt)) in
    proved 𝓛 En hs c 𝓜 𝓡 (Goes-dropped 𝓛 5 lock yes (λ κs x f. refl), (Goes-dropped 𝓛 5 pass no (λ κs x f. refl), tt)) (#self inst) fn (code.unfolded 𝓤 H 𝓜 𝓡 wired (X, (Y, (Z, (W, tt)))) d)
    (λ κs. (shr_vals, (mut_vals, tt))) (λ κs. (shr_Tells (named 0) κs.0 Lock, (mut_Tells (named 0) κs.0 Pass, tt))) (λ κs qs bounds a gh are.
    let x = a.0 in let p = a.1.0 in let px = shr_vals x in let pp = mut_vals p in
    let y : (walk_of 𝓛 En hs c).Ghost = ((κs, qs, bounds, a, (px, (pp, tt))), gh) in let Post : Val → SProp 𝓤 = (walk_of 𝓛 En hs c).post y in
    let Ox : Fml = (type_at lock κs).own_val x px in let Op : Fml = (type_at pass κs).own_val p pp in
    let G = triple_of 𝓛 (f.signature X Y Z W g d) (f.spec X Y Z W g d 𝓛 𝓜.mem 𝓡.returns) in
    let F = f.ended X Y Z W g d in let b : Args F.signature κs = (p, (x, tt)) in
    let Turn : RattleType = turn_row (named_lft 5 0 tt κs) (param 0 X) (param 1 Y) (param 2 Z) (param 3 W) g in let Res : RattleType = result_row Turn held_row in
    let laws = result_laws Turn held_row (turn_laws (named_lft 5 0 tt κs) (param 0 X) (param 1 Y) (param 2 Z) (param 3 W) g (param_laws 0 X LX) (param_laws 1 Y LY) (param_laws 2 Z LZ) (param_laws 3 W LW)) held_laws in
    let z : G.Ghost = ((κs, qs, bounds, b, (pp, (px, tt))), gh) in
    qed 𝓛 ((raw (alive 𝓛 En.signature κs qs) ⊛ ‵ (fsep Ox (fsep Op ftrue))) ∷ raw ((c κs a).requires gh) ∷ []) ∵
    split ! $ move ! (1 ∷ []) $ fsplit ! $ move ! (1 ∷ []) $ fsplit ! $
    -- [the pass; nothing; the lock; the tokens; the `requires`]
    move ! (2 ∷ 1 ∷ []) $ fjoin ! $ move ! (1 ∷ 0 ∷ []) $ fjoin ! $ move ! (1 ∷ 0 ∷ []) $ join ! $ join ! $ use1 𝓛 (raw (G.pre z)) (id⊢ 𝓤 _) $
    enter ! _ _ _ _ _ $ alloc_all ! (λ l. pass_all ! refl ((tt, tt), ((tt, tt), tt)) $
    sets ! (addr ! (through ! refl (stop !))) refl (tt, tt) $
    calls_at ! (fm 𝓛 𝓜 𝓡) G (met 𝓤 𝓛 𝓜 𝓡 (code.calls-turn_lock::lock::Pass::try_enter 𝓡.env wired) X Y Z W LX LY LZ LW g d bound) z
    (and_then ! (get ! refl) (and_then ! (get ! refl) (no_more !))) (λ v.
    use1 𝓛 (later (some (λ (r : Res.Denot). (raw (alive 𝓛 En.signature κs qs) ⊛ ‵ (Res.own_val r (v ∷ []))) ⊛
    some (λ (ws : Lasts F κs b). ‵ (lasts F κs b ws) ⊛ raw ((f.clauses X Y Z W g d 𝓛 𝓜.mem 𝓡.returns κs b).ensures gh r (at_exit F κs b ws)))))) (id⊢ 𝓤 _) $
    await ! tt $ pick ! (λ r. split ! $ split ! $ move ! (2 ∷ []) $ pick ! (λ ws. split ! $ drop ! $ move ! (2 ∷ []) $
    -- [the result; the `ensures`; the tokens]
    peeks ! Res (Is Res) (shows 𝓛 Res) r (v ∷ []) (λ is. let good = ((laws.lawful 𝓛).typed r (v ∷ []) is).0 in
    lands_as ! refl refl good $ returns ! (look_at ! 0 refl) $ free_all ! refl $
    nothing ! $ nothing ! $ fjoin ! $ nothing ! $ fjoin ! $ move ! (3 ∷ 0 ∷ 1 ∷ 2 ∷ []) $ by ! (leaves 𝓛 En hs c y v r (tt, (tt, tt)) (tt, (tt, tt)))))))))
