mod Standing
mod Coming
mod Taking
mod Arrived
