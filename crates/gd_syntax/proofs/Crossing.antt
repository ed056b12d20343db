-- Faults and trees cross threads, and are shared by them. A search enters each of many variants anew at each type above,
-- and runs into its limits: so each type has its lemma, from those of its parts, as a field (`row`) and by itself.
use denote.RattleType.{RattleType}
use denote.Param.Send.{IsSend, IsSync, sendable}
use denote.Param.SendFields.{as_row_send, as_row_sync}
use Rattle.std.proofs.Crossing.{crosses}
use Rattle.std.specs.contracts.option.Option as Option
use Rattle.tree_lists.proofs.Crossing.{lists, items_send, items_sync, boxed_send, boxed_sync}
use Rattle.gd_syntax.specs.contracts.fault.Form as Form
use Rattle.gd_syntax.specs.contracts.fault.FaultKind as FaultKind
use Rattle.gd_syntax.specs.contracts.fault.Place as Place
use Rattle.gd_syntax.specs.contracts.fault.LoadFault as LoadFault
use Rattle.gd_syntax.specs.contracts.name.Text as Text
use Rattle.gd_syntax.specs.contracts.name.Name as Name
use Rattle.gd_syntax.specs.contracts.tree.type_name.Identifier as Identifier
use Rattle.gd_syntax.specs.contracts.tree.type_name.PathText as PathText
use Rattle.gd_syntax.specs.contracts.tree.type_name.ElementName as ElementName
use Rattle.gd_syntax.specs.contracts.tree.type_name.TypeName as TypeName
use Rattle.gd_syntax.specs.contracts.tree.expr.TreeOp as TreeOp
use Rattle.gd_syntax.specs.contracts.tree.expr.TreePrefix as TreePrefix
use Rattle.gd_syntax.specs.contracts.tree.expr.Literal as Literal
use Rattle.gd_syntax.specs.contracts.tree.expr.Expr as Expr
use Rattle.gd_syntax.specs.contracts.tree.type_name.Declared as Declared
use Rattle.gd_syntax.specs.contracts.tree.member.Annotation as Annotation
use Rattle.gd_syntax.specs.contracts.tree.member.BaseRoot as BaseRoot
use Rattle.gd_syntax.specs.contracts.tree.member.Base as Base
use Rattle.gd_syntax.specs.contracts.tree.member.Head as Head
use Rattle.gd_syntax.specs.contracts.tree.member.Var as Var
use Rattle.gd_syntax.specs.contracts.tree.member.Const as Const
use Rattle.gd_syntax.specs.contracts.tree.member.EnumItem as EnumItem
use Rattle.gd_syntax.specs.contracts.tree.member.Enum as Enum
use Rattle.gd_syntax.specs.contracts.tree.member.Param as Param
use Rattle.gd_syntax.specs.contracts.tree.member.Signal as Signal
use Rattle.gd_syntax.specs.contracts.tree.pattern.Pattern as Pattern
use Rattle.gd_syntax.specs.contracts.tree.statement.AssignOp as AssignOp
use Rattle.gd_syntax.specs.contracts.tree.statement.Simple as Simple
use Rattle.gd_syntax.specs.contracts.tree.statement.Stmt as Stmt
use Rattle.gd_syntax.specs.contracts.tree.member.Func as Func
use Rattle.gd_syntax.specs.contracts.tree.member.Member as Member
use Rattle.gd_syntax.specs.contracts.tree.member.Script as Script
use Rattle.gd_syntax.proofs.tree.expr.Expr.TheLaws.TheKnot.{send-Expr, sync-Expr}
use Rattle.gd_syntax.proofs.tree.pattern.Pattern.TheLaws.TheKnot.{send-Pattern, sync-Pattern}
use Rattle.gd_syntax.proofs.tree.statement.Stmt.TheLaws.TheKnot.{send-Stmt, sync-Stmt}
use Rattle.gd_syntax.proofs.tree.member.Member.TheLaws.TheKnot.{send-Member, sync-Member}

option_send : (T : RattleType) → IsSend T → IsSend (Option.the_row T)
option_send T s = search sendable depth 40

option_row_send : (T : RattleType) → IsSend T → IsSend (Option.the_field T).row
option_row_send T s = search sendable depth 40

option_sync : (T : RattleType) → IsSync T → IsSync (Option.the_row T)
option_sync T s = search sendable depth 40

option_row_sync : (T : RattleType) → IsSync T → IsSync (Option.the_field T).row
option_row_sync T s = search sendable depth 40

pub form_row_send : IsSend (Form.the_field).row
form_row_send = search sendable depth 60 fits 4000

pub form_send : IsSend Form.the_row
form_send = as_row_send Form.the_field form_row_send

pub form_row_sync : IsSync (Form.the_field).row
form_row_sync = search sendable depth 60 fits 4000

pub form_sync : IsSync Form.the_row
form_sync = as_row_sync Form.the_field form_row_sync

pub kind_row_send : IsSend (FaultKind.the_field).row
kind_row_send = search (form_row_send, form_send, option_send, lists, sendable) depth 60 fits 4000

pub kind_send : IsSend FaultKind.the_row
kind_send = as_row_send FaultKind.the_field kind_row_send

pub kind_row_sync : IsSync (FaultKind.the_field).row
kind_row_sync = search (form_row_sync, form_sync, option_sync, lists, sendable) depth 60 fits 4000

pub kind_sync : IsSync FaultKind.the_row
kind_sync = as_row_sync FaultKind.the_field kind_row_sync

pub place_row_send : IsSend (Place.the_field).row
place_row_send = search sendable depth 60 fits 4000

pub place_send : IsSend Place.the_row
place_send = as_row_send Place.the_field place_row_send

pub place_row_sync : IsSync (Place.the_field).row
place_row_sync = search sendable depth 60 fits 4000

pub place_sync : IsSync Place.the_row
place_sync = as_row_sync Place.the_field place_row_sync

pub fault_row_send : IsSend (LoadFault.the_field).row
fault_row_send = search (kind_row_send, kind_send, place_row_send, place_send, option_send, lists, sendable) depth 60 fits 4000

pub fault_send : IsSend LoadFault.the_row
fault_send = as_row_send LoadFault.the_field fault_row_send

pub fault_row_sync : IsSync (LoadFault.the_field).row
fault_row_sync = search (kind_row_sync, kind_sync, place_row_sync, place_sync, option_sync, lists, sendable) depth 60 fits 4000

pub fault_sync : IsSync LoadFault.the_row
fault_sync = as_row_sync LoadFault.the_field fault_row_sync

pub text_send : IsSend Text.the_row
text_send = search (sendable, crosses) depth 60 fits 4000

pub text_sync : IsSync Text.the_row
text_sync = search (sendable, crosses) depth 60 fits 4000

pub name_send : IsSend Name.the_row
name_send = search (text_send, sendable, crosses) depth 60 fits 4000

pub name_sync : IsSync Name.the_row
name_sync = search (text_sync, sendable, crosses) depth 60 fits 4000

pub identifier_row_send : IsSend (Identifier.the_field).row
identifier_row_send = search (place_row_send, place_send, name_send, option_send, lists, sendable) depth 60 fits 4000

pub identifier_send : IsSend Identifier.the_row
identifier_send = as_row_send Identifier.the_field identifier_row_send

pub identifier_row_sync : IsSync (Identifier.the_field).row
identifier_row_sync = search (place_row_sync, place_sync, name_sync, option_sync, lists, sendable) depth 60 fits 4000

pub identifier_sync : IsSync Identifier.the_row
identifier_sync = as_row_sync Identifier.the_field identifier_row_sync

pub path_row_send : IsSend (PathText.the_field).row
path_row_send = search (place_row_send, place_send, text_send, option_send, lists, sendable) depth 60 fits 4000

pub path_send : IsSend PathText.the_row
path_send = as_row_send PathText.the_field path_row_send

pub path_row_sync : IsSync (PathText.the_field).row
path_row_sync = search (place_row_sync, place_sync, text_sync, option_sync, lists, sendable) depth 60 fits 4000

pub path_sync : IsSync PathText.the_row
path_sync = as_row_sync PathText.the_field path_row_sync

pub element_row_send : IsSend (ElementName.the_field).row
element_row_send = search (place_row_send, place_send, name_send, option_send, lists, sendable) depth 60 fits 4000

pub element_send : IsSend ElementName.the_row
element_send = as_row_send ElementName.the_field element_row_send

pub element_row_sync : IsSync (ElementName.the_field).row
element_row_sync = search (place_row_sync, place_sync, name_sync, option_sync, lists, sendable) depth 60 fits 4000

pub element_sync : IsSync ElementName.the_row
element_sync = as_row_sync ElementName.the_field element_row_sync

pub type_row_send : IsSend (TypeName.the_field).row
type_row_send = search (place_row_send, place_send, name_send, element_row_send, element_send, option_send, lists, sendable) depth 60 fits 4000

pub type_send : IsSend TypeName.the_row
type_send = as_row_send TypeName.the_field type_row_send

pub type_row_sync : IsSync (TypeName.the_field).row
type_row_sync = search (place_row_sync, place_sync, name_sync, element_row_sync, element_sync, option_sync, lists, sendable) depth 60 fits 4000

pub type_sync : IsSync TypeName.the_row
type_sync = as_row_sync TypeName.the_field type_row_sync

pub operator_row_send : IsSend (TreeOp.the_field).row
operator_row_send = search sendable depth 60 fits 4000

pub operator_send : IsSend TreeOp.the_row
operator_send = as_row_send TreeOp.the_field operator_row_send

pub operator_row_sync : IsSync (TreeOp.the_field).row
operator_row_sync = search sendable depth 60 fits 4000

pub operator_sync : IsSync TreeOp.the_row
operator_sync = as_row_sync TreeOp.the_field operator_row_sync

pub prefix_row_send : IsSend (TreePrefix.the_field).row
prefix_row_send = search sendable depth 60 fits 4000

pub prefix_send : IsSend TreePrefix.the_row
prefix_send = as_row_send TreePrefix.the_field prefix_row_send

pub prefix_row_sync : IsSync (TreePrefix.the_field).row
prefix_row_sync = search sendable depth 60 fits 4000

pub prefix_sync : IsSync TreePrefix.the_row
prefix_sync = as_row_sync TreePrefix.the_field prefix_row_sync

pub literal_row_send : IsSend (Literal.the_field).row
literal_row_send = search (text_send, option_send, lists, sendable) depth 60 fits 4000

pub literal_send : IsSend Literal.the_row
literal_send = as_row_send Literal.the_field literal_row_send

pub literal_row_sync : IsSync (Literal.the_field).row
literal_row_sync = search (text_sync, option_sync, lists, sendable) depth 60 fits 4000

pub literal_sync : IsSync Literal.the_row
literal_sync = as_row_sync Literal.the_field literal_row_sync

pub expr_row_send : IsSend (Expr.the_field).row
expr_row_send = send-Expr place_row_send literal_row_send name_send boxed_send items_send (λ h s. search (lists, sendable) depth 40) (λ h s. search (identifier_send, lists, sendable) depth 40) path_row_send (items_send _ name_send) text_send type_row_send prefix_row_send operator_row_send

pub expr_send : IsSend Expr.the_row
expr_send = as_row_send Expr.the_field expr_row_send

pub expr_row_sync : IsSync (Expr.the_field).row
expr_row_sync = sync-Expr place_row_sync literal_row_sync name_sync boxed_sync items_sync (λ h s. search (lists, sendable) depth 40) (λ h s. search (identifier_sync, lists, sendable) depth 40) path_row_sync (items_sync _ name_sync) text_sync type_row_sync prefix_row_sync operator_row_sync

pub expr_sync : IsSync Expr.the_row
expr_sync = as_row_sync Expr.the_field expr_row_sync

pub declaration_row_send : IsSend (Declared.the_field).row
declaration_row_send = search (type_row_send, type_send, expr_row_send, expr_send, option_send, lists, sendable) depth 60 fits 4000

pub declaration_send : IsSend Declared.the_row
declaration_send = as_row_send Declared.the_field declaration_row_send

pub declaration_row_sync : IsSync (Declared.the_field).row
declaration_row_sync = search (type_row_sync, type_sync, expr_row_sync, expr_sync, option_sync, lists, sendable) depth 60 fits 4000

pub declaration_sync : IsSync Declared.the_row
declaration_sync = as_row_sync Declared.the_field declaration_row_sync

pub annotation_row_send : IsSend (Annotation.the_field).row
annotation_row_send = search (place_row_send, place_send, name_send, expr_row_send, expr_send, option_send, lists, sendable) depth 60 fits 4000

pub annotation_send : IsSend Annotation.the_row
annotation_send = as_row_send Annotation.the_field annotation_row_send

pub annotation_row_sync : IsSync (Annotation.the_field).row
annotation_row_sync = search (place_row_sync, place_sync, name_sync, expr_row_sync, expr_sync, option_sync, lists, sendable) depth 60 fits 4000

pub annotation_sync : IsSync Annotation.the_row
annotation_sync = as_row_sync Annotation.the_field annotation_row_sync

pub root_row_send : IsSend (BaseRoot.the_field).row
root_row_send = search (text_send, name_send, option_send, lists, sendable) depth 60 fits 4000

pub root_send : IsSend BaseRoot.the_row
root_send = as_row_send BaseRoot.the_field root_row_send

pub root_row_sync : IsSync (BaseRoot.the_field).row
root_row_sync = search (text_sync, name_sync, option_sync, lists, sendable) depth 60 fits 4000

pub root_sync : IsSync BaseRoot.the_row
root_sync = as_row_sync BaseRoot.the_field root_row_sync

pub base_row_send : IsSend (Base.the_field).row
base_row_send = search (place_row_send, place_send, root_row_send, root_send, name_send, option_send, lists, sendable) depth 60 fits 4000

pub base_send : IsSend Base.the_row
base_send = as_row_send Base.the_field base_row_send

pub base_row_sync : IsSync (Base.the_field).row
base_row_sync = search (place_row_sync, place_sync, root_row_sync, root_sync, name_sync, option_sync, lists, sendable) depth 60 fits 4000

pub base_sync : IsSync Base.the_row
base_sync = as_row_sync Base.the_field base_row_sync

pub head_row_send : IsSend (Head.the_field).row
head_row_send = search (annotation_row_send, annotation_send, place_row_send, place_send, identifier_row_send, identifier_send, base_row_send, base_send, option_send, lists, sendable) depth 60 fits 4000

pub head_send : IsSend Head.the_row
head_send = as_row_send Head.the_field head_row_send

pub head_row_sync : IsSync (Head.the_field).row
head_row_sync = search (annotation_row_sync, annotation_sync, place_row_sync, place_sync, identifier_row_sync, identifier_sync, base_row_sync, base_sync, option_sync, lists, sendable) depth 60 fits 4000

pub head_sync : IsSync Head.the_row
head_sync = as_row_sync Head.the_field head_row_sync

pub var_row_send : IsSend (Var.the_field).row
var_row_send = search (place_row_send, place_send, annotation_row_send, annotation_send, identifier_row_send, identifier_send, declaration_row_send, declaration_send, option_send, lists, sendable) depth 60 fits 4000

pub var_send : IsSend Var.the_row
var_send = as_row_send Var.the_field var_row_send

pub var_row_sync : IsSync (Var.the_field).row
var_row_sync = search (place_row_sync, place_sync, annotation_row_sync, annotation_sync, identifier_row_sync, identifier_sync, declaration_row_sync, declaration_sync, option_sync, lists, sendable) depth 60 fits 4000

pub var_sync : IsSync Var.the_row
var_sync = as_row_sync Var.the_field var_row_sync

pub const_row_send : IsSend (Const.the_field).row
const_row_send = search (place_row_send, place_send, identifier_row_send, identifier_send, type_row_send, type_send, expr_row_send, expr_send, option_send, lists, sendable) depth 60 fits 4000

pub const_send : IsSend Const.the_row
const_send = as_row_send Const.the_field const_row_send

pub const_row_sync : IsSync (Const.the_field).row
const_row_sync = search (place_row_sync, place_sync, identifier_row_sync, identifier_sync, type_row_sync, type_sync, expr_row_sync, expr_sync, option_sync, lists, sendable) depth 60 fits 4000

pub const_sync : IsSync Const.the_row
const_sync = as_row_sync Const.the_field const_row_sync

pub item_row_send : IsSend (EnumItem.the_field).row
item_row_send = search (identifier_row_send, identifier_send, expr_row_send, expr_send, option_send, lists, sendable) depth 60 fits 4000

pub item_send : IsSend EnumItem.the_row
item_send = as_row_send EnumItem.the_field item_row_send

pub item_row_sync : IsSync (EnumItem.the_field).row
item_row_sync = search (identifier_row_sync, identifier_sync, expr_row_sync, expr_sync, option_sync, lists, sendable) depth 60 fits 4000

pub item_sync : IsSync EnumItem.the_row
item_sync = as_row_sync EnumItem.the_field item_row_sync

pub enum_row_send : IsSend (Enum.the_field).row
enum_row_send = search (place_row_send, place_send, identifier_row_send, identifier_send, item_row_send, item_send, option_send, lists, sendable) depth 60 fits 4000

pub enum_send : IsSend Enum.the_row
enum_send = as_row_send Enum.the_field enum_row_send

pub enum_row_sync : IsSync (Enum.the_field).row
enum_row_sync = search (place_row_sync, place_sync, identifier_row_sync, identifier_sync, item_row_sync, item_sync, option_sync, lists, sendable) depth 60 fits 4000

pub enum_sync : IsSync Enum.the_row
enum_sync = as_row_sync Enum.the_field enum_row_sync

pub param_row_send : IsSend (Param.the_field).row
param_row_send = search (identifier_row_send, identifier_send, declaration_row_send, declaration_send, option_send, lists, sendable) depth 60 fits 4000

pub param_send : IsSend Param.the_row
param_send = as_row_send Param.the_field param_row_send

pub param_row_sync : IsSync (Param.the_field).row
param_row_sync = search (identifier_row_sync, identifier_sync, declaration_row_sync, declaration_sync, option_sync, lists, sendable) depth 60 fits 4000

pub param_sync : IsSync Param.the_row
param_sync = as_row_sync Param.the_field param_row_sync

pub signal_row_send : IsSend (Signal.the_field).row
signal_row_send = search (place_row_send, place_send, identifier_row_send, identifier_send, param_row_send, param_send, option_send, lists, sendable) depth 60 fits 4000

pub signal_send : IsSend Signal.the_row
signal_send = as_row_send Signal.the_field signal_row_send

pub signal_row_sync : IsSync (Signal.the_field).row
signal_row_sync = search (place_row_sync, place_sync, identifier_row_sync, identifier_sync, param_row_sync, param_sync, option_sync, lists, sendable) depth 60 fits 4000

pub signal_sync : IsSync Signal.the_row
signal_sync = as_row_sync Signal.the_field signal_row_sync

pub pattern_row_send : IsSend (Pattern.the_field).row
pattern_row_send = search (send-Pattern, place_row_send, place_send, identifier_row_send, identifier_send, literal_row_send, literal_send, name_send, option_send, lists, sendable) depth 60 fits 4000

pub pattern_send : IsSend Pattern.the_row
pattern_send = as_row_send Pattern.the_field pattern_row_send

pub pattern_row_sync : IsSync (Pattern.the_field).row
pattern_row_sync = search (sync-Pattern, place_row_sync, place_sync, identifier_row_sync, identifier_sync, literal_row_sync, literal_sync, name_sync, option_sync, lists, sendable) depth 60 fits 4000

pub pattern_sync : IsSync Pattern.the_row
pattern_sync = as_row_sync Pattern.the_field pattern_row_sync

pub assign_row_send : IsSend (AssignOp.the_field).row
assign_row_send = search sendable depth 60 fits 4000

pub assign_send : IsSend AssignOp.the_row
assign_send = as_row_send AssignOp.the_field assign_row_send

pub assign_row_sync : IsSync (AssignOp.the_field).row
assign_row_sync = search sendable depth 60 fits 4000

pub assign_sync : IsSync AssignOp.the_row
assign_sync = as_row_sync AssignOp.the_field assign_row_sync

pub simple_row_send : IsSend (Simple.the_field).row
simple_row_send = search (place_row_send, place_send, expr_row_send, expr_send, var_row_send, var_send, const_row_send, const_send, assign_row_send, assign_send, option_send, lists, sendable) depth 60 fits 4000

pub simple_send : IsSend Simple.the_row
simple_send = as_row_send Simple.the_field simple_row_send

pub simple_row_sync : IsSync (Simple.the_field).row
simple_row_sync = search (place_row_sync, place_sync, expr_row_sync, expr_sync, var_row_sync, var_sync, const_row_sync, const_sync, assign_row_sync, assign_sync, option_sync, lists, sendable) depth 60 fits 4000

pub simple_sync : IsSync Simple.the_row
simple_sync = as_row_sync Simple.the_field simple_row_sync

pub statement_row_send : IsSend (Stmt.the_field).row
statement_row_send = send-Stmt place_row_send (items_send _ simple_send) items_send (λ h s. option_send _ (items_send _ s)) identifier_row_send (option_row_send _ type_send) expr_row_send (items_send _ pattern_send)

pub statement_send : IsSend Stmt.the_row
statement_send = as_row_send Stmt.the_field statement_row_send

pub statement_row_sync : IsSync (Stmt.the_field).row
statement_row_sync = sync-Stmt place_row_sync (items_sync _ simple_sync) items_sync (λ h s. option_sync _ (items_sync _ s)) identifier_row_sync (option_row_sync _ type_sync) expr_row_sync (items_sync _ pattern_sync)

pub statement_sync : IsSync Stmt.the_row
statement_sync = as_row_sync Stmt.the_field statement_row_sync

pub func_row_send : IsSend (Func.the_field).row
func_row_send = search (place_row_send, place_send, annotation_row_send, annotation_send, identifier_row_send, identifier_send, param_row_send, param_send, type_row_send, type_send, statement_row_send, statement_send, option_send, lists, sendable) depth 60 fits 4000

pub func_send : IsSend Func.the_row
func_send = as_row_send Func.the_field func_row_send

pub func_row_sync : IsSync (Func.the_field).row
func_row_sync = search (place_row_sync, place_sync, annotation_row_sync, annotation_sync, identifier_row_sync, identifier_sync, param_row_sync, param_sync, type_row_sync, type_sync, statement_row_sync, statement_sync, option_sync, lists, sendable) depth 60 fits 4000

pub func_sync : IsSync Func.the_row
func_sync = as_row_sync Func.the_field func_row_sync

pub member_row_send : IsSend (Member.the_field).row
member_row_send = send-Member place_row_send var_row_send const_row_send enum_row_send signal_row_send func_row_send identifier_row_send (option_row_send _ base_send) items_send

pub member_send : IsSend Member.the_row
member_send = as_row_send Member.the_field member_row_send

pub member_row_sync : IsSync (Member.the_field).row
member_row_sync = sync-Member place_row_sync var_row_sync const_row_sync enum_row_sync signal_row_sync func_row_sync identifier_row_sync (option_row_sync _ base_sync) items_sync

pub member_sync : IsSync Member.the_row
member_sync = as_row_sync Member.the_field member_row_sync

pub script_row_send : IsSend (Script.the_field).row
script_row_send = search (place_row_send, place_send, head_row_send, head_send, member_row_send, member_send, option_send, lists, sendable) depth 60 fits 4000

pub script_send : IsSend Script.the_row
script_send = as_row_send Script.the_field script_row_send

pub script_row_sync : IsSync (Script.the_field).row
script_row_sync = search (place_row_sync, place_sync, head_row_sync, head_sync, member_row_sync, member_sync, option_sync, lists, sendable) depth 60 fits 4000

pub script_sync : IsSync Script.the_row
script_sync = as_row_sync Script.the_field script_row_sync
